use Rattle.std.proofs.Common.{◌≤◌, length}
use Rattle.scan_model.specs.Marks.{is_marked}
use Rattle.scan_model.proofs.FanSweeps.{IsSpread}
use Rattle.scan_model.proofs.cones.mark_fan_in.Given as goal

abbrev pub invariant-loop-k : goal.invariant-loop-k
invariant-loop-k l = record {
  within : l.k ≤ length l.order;
  spread : IsSpread l.circuit l.order l.net l.k (is_marked l.marks);
}

abbrev pub decreases-loop-k : goal.decreases-loop-k
decreases-loop-k l = l.k
