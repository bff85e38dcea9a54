use Rattle.chain_compactor.specs.TracedBits.{AddsUpstreamBits}
use Rattle.chain_compactor.proofs.tracing.push_block.Given as goal

abbrev pub invariant-loop-point : goal.invariant-loop-point
invariant-loop-point l = AddsUpstreamBits l.parts l.compact l.rows l.block l.there l.point l.initial.bits l.bits
