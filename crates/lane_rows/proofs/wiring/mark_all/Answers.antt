use Rattle.std.proofs.Common.{arith}
use Rattle.lane_rows.proofs.Written.{marked_so_far}
use Rattle.lane_rows.proofs.wiring.mark_all.Goals as goal

pub loop-k-preserved : goal.loop-k-preserved
loop-k-preserved c = marked_so_far c.loop-k.marks c.args.nets.now c.loop-k.k (omega (arith, c.requires c.loop-k.k 0 c.loop-k-test.true, c.loop-k.auto.marks)) c.loop-k.invariant
