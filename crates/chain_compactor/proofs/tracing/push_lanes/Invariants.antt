use Rattle.chain_compactor.specs.TracedBits.{AddsLanes}
use Rattle.chain_compactor.proofs.tracing.push_lanes.Given as goal

abbrev pub invariant-loop-lane : goal.invariant-loop-lane
invariant-loop-lane l = AddsLanes l.lanes l.block l.point l.lane l.initial.bits l.bits
