use Rattle.packed_sim.proofs.Loading.{IsLoading}
use Rattle.packed_sim.proofs.good.PackedGood.load.Given as goal

abbrev pub invariant-loop-at : goal.invariant-loop-at
invariant-loop-at g l = IsLoading l.parts l.self l.block l.fault_cell.0 l.fault_cell.1 l.at l.kind l.fn.scratch l.scratch

abbrev pub decreases-loop-at : goal.decreases-loop-at
decreases-loop-at g l = l.at
