use Rattle.scan_model.specs.Marks.{is_marked}
use Rattle.scan_model.proofs.FanSweeps.{IsSwept}
use Rattle.scan_model.proofs.cones.mark_fan_out.Given as goal

abbrev pub invariant-loop-gate : goal.invariant-loop-gate
invariant-loop-gate l = IsSwept l.circuit l.order l.net l.gate-index (is_marked l.marks)
