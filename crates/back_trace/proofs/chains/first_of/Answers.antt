use Rattle.explained_lanes.proofs.ToldLanes.{some_lane}
use Rattle.back_trace.proofs.ChainTraces.{first_own, first_all}
use Rattle.back_trace.proofs.chains.first_of.Goals as goal

pub returns-then-is_empty-2 : goal.returns-then-is_empty-2
returns-then-is_empty-2 c = first_own c.args.fails c.args.shift c.and.result c.args.pos (some_lane c.args.fails c.is_empty.result c.if-is_empty.false c.is_empty.ensures.some) c.and.ensures
    (c.is_empty-else-is_empty.ensures.empty c.if-is_empty-2.true)

pub returns-else-is_empty-2 : goal.returns-else-is_empty-2
returns-else-is_empty-2 c = first_all c.args.fails c.args.shift c.and.result c.args.pos (some_lane c.and.result c.is_empty-else-is_empty.result c.if-is_empty-2.false c.is_empty-else-is_empty.ensures.some) c.and.ensures
