use Rattle.std.proofs.Common.{◌≡◌, ◌∙◌, ℕ, ◌+◌, ◌<◌, length, set, sym, subst, arith}
use Rattle.std.proofs.lemmas.List.{get_or_default}
use Rattle.scan_model.specs.declared.fault.Fault.{Fault}
use Rattle.scan_model.specs.Universe.{universe}
use Rattle.back_trace.specs.SuspectMarks.{no_fault, AreMarked, MarksOn}
use Rattle.explained_lanes.specs.Fails.{explains_in, Tells}
use Rattle.back_trace.proofs.SuspectMarks.{one_marked, one_kept}
use Rattle.back_trace.proofs.Standing.{place_there, fault_there, site_there}
use Rattle.back_trace.proofs.marks.mark_each.Goals as goal
use Rattle.back_trace.proofs.marks.mark_each.Goals.{then-not-marks-place, else-not-marks-place}

pub loop-k-preserved : goal.loop-k-preserved
loop-k-preserved c = λ b good within initial so_far.
    let t = c.args.parts.now in
    let rows = c.args.trace.now.fails in
    let faults = c.args.faults.now in
    let first = c.args.first in
    let k = c.loop-k.k in
    let marks = c.loop-k.marks in
    let lk = c.loop-k-test.true in
    let inside : first + k < length marks = omega (arith, c.loop-k.auto.marks, c.requires.marks, place_there t first faults c.requires.faults k lk no_fault) in
    let before = c.loop-k.invariant b good within initial so_far in
    let next : (first + k) + 1 ≡ first + (k + 1) = omega arith in
    elim c.if-not-marks-place.branch [
      | then-not-marks-place w ↦ rw w.marks-is (subst (λ (n : ℕ). AreMarked t b rows (universe t) n initial (set marks (first + k) w.is_explained.result)) next
          (one_marked t b rows (universe t) (first + k) initial marks before inside w.is_explained.result w.if-not-marks-place.true
          (subst (λ (f : Fault). Tells w.is_explained.result (explains_in t f b rows)) (get_or_default faults k _ no_fault lk ∙ sym (fault_there t first faults c.requires.faults k lk no_fault)) (w.is_explained.ensures b good within))))
      | else-not-marks-place w ↦ rw w.marks-is (subst (λ (n : ℕ). AreMarked t b rows (universe t) n initial marks) next (one_kept t b rows (universe t) (first + k) initial marks before inside w.if-not-marks-place.false))
    ]

pub overflow_add-place : goal.overflow_add-place
overflow_add-place c = omega (arith, place_there c.args.parts.now c.args.first c.args.faults.now c.requires.faults c.loop-k.k c.loop-k-test.true no_fault, c.requires.traced.few)

pub bounds-marks-place : goal.bounds-marks-place
bounds-marks-place c = omega (arith, c.loop-k.auto.marks, c.requires.marks, place_there c.args.parts.now c.args.first c.args.faults.now c.requires.faults c.loop-k.k c.loop-k-test.true no_fault)

pub is_explained-requires-clause-site : goal.is_explained-requires-clause-site
is_explained-requires-clause-site c = site_there c.args.parts.now c.args.first c.args.faults.now c.requires.faults c.loop-k.k c.loop-k-test.true _ c.requires.traced.sound

pub bounds-marks-place-then-not-marks-place : goal.bounds-marks-place-then-not-marks-place
bounds-marks-place-then-not-marks-place c = omega (arith, c.loop-k.auto.marks, c.requires.marks, place_there c.args.parts.now c.args.first c.args.faults.now c.requires.faults c.loop-k.k c.loop-k-test.true no_fault)

pub returns : goal.returns
returns c =
    let whole : c.loop-k.k ≡ length c.args.faults.now = omega (arith, c.loop-k.auto.k-end, c.loop-k-test.false) in
    subst (λ (n : ℕ). MarksOn c.args.parts.now c.args.block.now c.args.trace.now c.args.first (c.args.first + n) c.args.marks.now c.loop-k.marks) whole c.loop-k.invariant
