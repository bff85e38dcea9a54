use Rattle.std.proofs.Common.{ℕ, eqb, length, subst, arith}
use Rattle.std.specs.Prelude.{All}
use Rattle.scan_model.specs.declared.fault.Fault.TheVariants as fault
use Rattle.scan_model.specs.ScanTest.{points_of}
use Rattle.packed_sim.specs.PackedParts.{observed_at}
use Rattle.fault_effects.specs.Walks.{ArePlacesFresh}
use Rattle.fault_effects.proofs.NetPoints.{filtered, of_net_points}
use Rattle.fault_effects.proofs.loaded_chain.LoadedChain.note_net.Goals as goal

pub note_points-requires-clause-points : goal.note_points-requires-clause-points
note_points-requires-clause-points g c =
    let t = c.args.self.now.work.now.parts.now in
    rw c.points_of_net-points.ensures (λ k d lt. omega (arith, (filtered (λ x. eqb (observed_at t x) c.args.net) 0 (length (points_of t)) k d lt).0))

pub returns-clause-fresh : goal.returns-clause-fresh
returns-clause-fresh g c =
    let t = c.args.self.now.work.now.parts.now in
    let Q : ℕ → Type 0 = ArePlacesFresh (g.O.Observer.model c.args.self.now.work.now.observer.now) c.args.self.now.work.now.block (fault.Cell c.args.self.now.chain c.args.self.now.pos c.args.self.now.kind) c.note_points.new.notes.rows.items in
    of_net_points t c.args.net Q (subst (All Q) c.points_of_net-points.ensures c.note_points.ensures.fresh)
