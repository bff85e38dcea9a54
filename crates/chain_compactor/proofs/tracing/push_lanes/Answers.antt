use Rattle.std.proofs.Common.{arith}
use Rattle.chain_compactor.proofs.BitLists.{no_lane, lane_more}
use Rattle.chain_compactor.proofs.tracing.push_lanes.Goals as goal

pub returns-then-is_empty : goal.returns-then-is_empty
returns-then-is_empty c = no_lane c.args.lanes c.args.block c.args.point 512 c.args.bits.now (c.is_empty.ensures.empty c.if-is_empty.true)

pub loop-lane-init : goal.loop-lane-init
loop-lane-init c = no_lane c.args.lanes c.args.block c.args.point 0 c.args.bits.now (λ j lt. absurd (omega (arith, lt)))

pub loop-lane-preserved : goal.loop-lane-preserved
loop-lane-preserved c = lane_more c.args.lanes c.args.block c.args.point c.loop-lane.lane c.has.result c.args.bits.now c.loop-lane.bits c.push_if.new.bits c.loop-lane-test.true c.has.ensures c.loop-lane.invariant c.in_ok-push_if.ensures
