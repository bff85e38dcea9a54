use Rattle.std.proofs.Common.{◌≡◌, false}
use Rattle.std.specs.List.{list_any}
use Rattle.scan_model.specs.Marks.{is_marked}
use Rattle.scan_model.proofs.FanSweeps.{first_reads}
use Rattle.scan_model.proofs.cones.is_reached.Given as goal

abbrev pub invariant-loop-i : goal.invariant-loop-i
invariant-loop-i l = list_any (is_marked l.marks) (first_reads l.circuit l.gate l.i) ≡ false
