use Rattle.std.proofs.Common.{◌≡◌, ℕ, ◌<◌, ◌+◌, List, length, get_or, sym, ap, subst, ◌∙◌, inl, inr, arith}
use Rattle.std.proofs.lemmas.Bool.{cases_eq}
use Rattle.std.proofs.lemmas.List.{get_or_default}
use Rattle.scan_model.specs.declared.fault.Fault.TheVariants as fault
use Rattle.scan_model.specs.declared.parts.Point.{Point}
use Rattle.scan_model.specs.declared.parts.Point.TheVariants.{Cell, Output}
use Rattle.scan_model.specs.ScanTest.{IsPoint, points_of, point_at}
use Rattle.scan_model.proofs.counting.Shown.{point_at-IsPoint}
use Rattle.scan_model.specs.Suspect.{observed_net}
use Rattle.fault_effects.specs.Walks.{AreFreshAt}
use Rattle.fault_effects.proofs.WalkNotes.{net_kept, renoted_join}
use Rattle.fault_effects.proofs.loaded_chain.LoadedChain.note_below.Goals as goal
use Rattle.fault_effects.proofs.loaded_chain.LoadedChain.note_below.Goals.{in-Some, in_default}

pub note_position-requires-clause-pos : goal.note_position-requires-clause-pos
note_position-requires-clause-pos g c =
    let t = c.args.self.now.work.now.parts.now in
    let k = get_or c.args.points.now c.loop-point.point-index 0 in
    let lt : k < length (points_of t) = c.requires.points c.loop-point.point-index 0 c.loop-point-test.true in
    let at : point_at t k ≡ Cell c.args.self.now.chain (c.in-Some.pos + 1) = ap (λ (ps : List Point). get_or ps k (Output 0)) (sym (c.as_slice.ensures ∙ c.points.ensures.value)) ∙ c.in-Some.ensures in
    let is_point : IsPoint t (Cell c.args.self.now.chain (c.in-Some.pos + 1)) = subst (IsPoint t) at (point_at-IsPoint t c.points.ensures.fits k lt) in
    omega (arith, is_point.1)

pub returns-clause-fresh : goal.returns-clause-fresh
returns-clause-fresh g c = λ k d lt i is.
    c.loop-point.invariant.fresh k i (omega (arith, lt, c.loop-point-test.false)) (ap (point_at c.args.self.now.work.now.parts.now) (get_or_default c.args.points.now k 0 d lt) ∙ is)

pub loop-point-preserved : goal.loop-point-preserved
loop-point-preserved g c =
    let self = c.args.self.now in
    let t = self.work.now.parts.now in
    let m = g.O.Observer.model self.work.now.observer.now in
    let b = self.work.now.block in
    let h = self.chain in
    let f = fault.Cell h self.pos self.kind in
    let at = c.loop-point.point-index in
    let k = get_or c.args.points.now at 0 in
    let old = c.loop-point.notes.rows.items in
    let listed = c.as_slice.ensures ∙ c.points.ensures.value in
    elim c.match-position_below.branch [
      | in-Some w ↦
          let new = w.note_position.new.notes.rows.items in
          let is_at : point_at t k ≡ Cell h (w.in-Some.pos + 1) = ap (λ (ps : List Point). get_or ps k (Output 0)) (sym listed) ∙ w.in-Some.ensures in
          let Below : ℕ → Type 0 = λ p. AreFreshAt t m b f new (observed_net t (Cell h p)) in
          rw w.notes-is (record {
            notes = w.note_position.ensures.notes;
            renoted = renoted_join m b f c.args.notes.now.rows.items old new c.loop-point.invariant.renoted w.note_position.ensures.renoted;
            fresh = λ i p lt is. elim (cases_eq i at) [
              | inl same ↦
                  let both : Cell h (w.in-Some.pos + 1) ≡ Cell h (p + 1) = sym is_at ∙ ap (λ (x : ℕ). point_at t (get_or c.args.points.now x 0)) (sym same) ∙ is in
                  let next : w.in-Some.pos + 1 ≡ p + 1 = cc in
                  let pos : w.in-Some.pos ≡ p = omega arith in
                  subst Below pos w.note_position.ensures.fresh
              | inr other ↦ net_kept m b f t old new w.note_position.ensures.renoted (observed_net t (Cell h p)) (c.loop-point.invariant.fresh i p (omega arith) is)
            ];
          })
      | in_default w ↦
          rw w.notes-is (record {
            notes = c.loop-point.invariant.notes;
            renoted = c.loop-point.invariant.renoted;
            fresh = λ i p lt is. elim (cases_eq i at) [
              | inl same ↦ absurd (w.in_default.ensures p (ap (λ (ps : List Point). get_or ps k (Output 0)) listed ∙ ap (λ (x : ℕ). point_at t (get_or c.args.points.now x 0)) (sym same) ∙ is))
              | inr other ↦ c.loop-point.invariant.fresh i p (omega arith) is
            ];
          })
    ]
