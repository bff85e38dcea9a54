use Rattle.std.proofs.Common.{arith}
use Rattle.scan_model.specs.Marks.{is_marked}
use Rattle.scan_model.proofs.FanSweeps.{marked_more}
use Rattle.two_frame.proofs.reach.mark_reads.Goals as goal

pub loop-i-preserved : goal.loop-i-preserved
loop-i-preserved c = marked_more c.args.circuit.now c.args.gate c.loop-i.i c.read_at.result c.read_at.ensures.value (is_marked c.args.marks.now) c.loop-i.marks (omega (arith, c.read_at.ensures.in_range, c.requires.marks)) c.loop-i.invariant
