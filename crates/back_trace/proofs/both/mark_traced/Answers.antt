use Rattle.std.proofs.Common.{◌≡◌, ℕ, length, subst, arith}
use Rattle.scan_model.specs.Universe.{universe}
use Rattle.back_trace.specs.CommonPatterns.{AreBothMarked}
use Rattle.back_trace.proofs.BothMarks.{both_begin, both_more, both_kept}
use Rattle.back_trace.proofs.both.mark_traced.Goals as goal
use Rattle.back_trace.proofs.both.mark_traced.Goals.{then-not-marks-place, else-not-marks-place}

pub loop-place-init : goal.loop-place-init
loop-place-init c = λ b good ones others. both_begin c.args.parts.now b c.args.ones.now.fails c.args.others.now.fails c.args.marks.now

pub loop-place-preserved : goal.loop-place-preserved
loop-place-preserved c = λ b good ones others.
    let t = c.args.parts.now in
    let first = c.args.ones.now.fails in
    let second = c.args.others.now.fails in
    let i = c.loop-place.place in
    let marks = c.loop-place.marks in
    let before = c.loop-place.invariant b good ones others in
    elim c.if-not-marks-place.branch [
      | then-not-marks-place w ↦ rw w.marks-is (both_more t b first second i c.args.marks.now marks before w.explains_both_at.result (omega (arith, c.loop-place-test.true, c.loop-place.auto.marks)) w.if-not-marks-place.true
          (w.explains_both_at.ensures b good ones others))
      | else-not-marks-place w ↦ rw w.marks-is (both_kept t b first second i c.args.marks.now marks before w.if-not-marks-place.false)
    ]

pub returns : goal.returns
returns c = λ b good ones others.
    let t = c.args.parts.now in
    let whole : c.loop-place.place ≡ length (universe t) = omega (arith, c.loop-place.auto.place-end, c.loop-place-test.false, c.requires.marks) in
    subst (λ (n : ℕ). AreBothMarked t b c.args.ones.now.fails c.args.others.now.fails n c.args.marks.now c.loop-place.marks) whole (c.loop-place.invariant b good ones others)
