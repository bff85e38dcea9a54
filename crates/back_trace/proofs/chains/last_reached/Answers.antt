use Rattle.std.proofs.Common.{[], get_or, refl, arith}
use Rattle.explained_lanes.proofs.ToldLanes.{some_lane}
use Rattle.back_trace.proofs.ChainTraces.{last_here, last_stays, last_is}
use Rattle.back_trace.proofs.chains.last_reached.Goals as goal
use Rattle.back_trace.proofs.chains.last_reached.Goals.{then-not-is_empty_at, else-not-is_empty_at}

pub loop-i-preserved : goal.loop-i-preserved
loop-i-preserved c =
    let i = c.loop-i.i in
    let reach = c.args.reach.now in
    let cells = c.args.cells.now in
    let row = get_or reach (get_or cells i 0) [] in
    elim c.if-not-is_empty_at.branch [
      | then-not-is_empty_at w ↦ rw w.last-is (last_here reach cells row i c.loop-i.last refl c.loop-i.invariant (some_lane row c.is_empty_at.result w.if-not-is_empty_at.true c.is_empty_at.ensures.some))
      | else-not-is_empty_at w ↦ rw w.last-is (last_stays reach cells row i c.loop-i.last refl c.loop-i.invariant (c.is_empty_at.ensures.empty w.if-not-is_empty_at.false))
    ]

pub returns : goal.returns
returns c = last_is c.args.reach.now c.args.cells.now c.loop-i.i c.loop-i.last (omega (arith, c.loop-i.auto.i-end, c.loop-i-test.false)) c.loop-i.invariant
