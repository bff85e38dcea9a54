use Rattle.std.proofs.Common.{◌≡◌, ◌+◌, ℕ, eqb, length, subst, arith}
use Rattle.std.specs.Prelude.{All}
use Rattle.scan_model.specs.declared.fault.Fault.TheVariants as fault
use Rattle.scan_model.specs.declared.parts.Point.TheVariants.{Cell}
use Rattle.scan_model.specs.ScanTest.{points_of, point_at}
use Rattle.scan_model.specs.Suspect.{observed_net}
use Rattle.packed_sim.specs.PackedParts.{observed_at}
use Rattle.fault_effects.specs.Walks.{ArePlacesFresh, AreFreshAt}
use Rattle.fault_effects.proofs.NetPoints.{filtered, of_net_points}
use Rattle.fault_effects.proofs.WalkNotes.{net_kept}
use Rattle.fault_effects.proofs.loaded_chain.LoadedChain.note_changed.Goals as goal

pub note_points-requires-clause-points : goal.note_points-requires-clause-points
note_points-requires-clause-points g c =
    let t = c.args.self.now.work.now.parts.now in
    rw c.points_of_net-points.ensures (λ k d lt. omega (arith, (filtered (λ x. eqb (observed_at t x) c.args.net) 0 (length (points_of t)) k d lt).0))

pub note_below-requires-clause-points : goal.note_below-requires-clause-points
note_below-requires-clause-points g c =
    let t = c.args.self.now.work.now.parts.now in
    rw c.points_of_net-points.ensures (λ k d lt. omega (arith, (filtered (λ x. eqb (observed_at t x) c.args.net) 0 (length (points_of t)) k d lt).0))

pub returns-clause-done : goal.returns-clause-done
returns-clause-done g c =
    let t = c.args.self.now.work.now.parts.now in
    let m = g.O.Observer.model c.args.self.now.work.now.observer.now in
    let b = c.args.self.now.work.now.block in
    let h = c.args.self.now.chain in
    let f = fault.Cell h c.args.self.now.pos c.args.self.now.kind in
    let mid = c.note_points.new.notes.rows.items in
    let new = c.note_below.new.notes.rows.items in
    let Q : ℕ → Type 0 = ArePlacesFresh m b f mid in
    let R : ℕ → Type 0 = λ k. (i : ℕ) → point_at t k ≡ Cell h (i + 1) → AreFreshAt t m b f new (observed_net t (Cell h i)) in
    record {
      own = net_kept m b f t mid new c.note_below.ensures.renoted c.args.net (of_net_points t c.args.net Q (subst (All Q) c.points_of_net-points.ensures c.note_points.ensures.fresh));
      below = λ k i lt is at. of_net_points t c.args.net R (subst (All R) c.points_of_net-points.ensures c.note_below.ensures.fresh) k lt is i at;
    }
