use Rattle.std.proofs.Common.{arith}
use Rattle.scan_model.specs.Marks.{is_marked}
use Rattle.scan_model.proofs.FanSweeps.{reached_here, passed_more}
use Rattle.scan_model.proofs.cones.is_reached.Goals as goal

pub returns-then-marks-read_at : goal.returns-then-marks-read_at
returns-then-marks-read_at c = reached_here c.args.circuit.now c.args.gate c.loop-i.i c.read_at.result c.read_at.ensures.value (is_marked c.args.marks.now) (omega arith) c.if-marks-read_at.true

pub loop-i-preserved : goal.loop-i-preserved
loop-i-preserved c = passed_more c.args.circuit.now c.args.gate c.loop-i.i c.read_at.result c.read_at.ensures.value (is_marked c.args.marks.now) c.loop-i.invariant c.if-marks-read_at.false
