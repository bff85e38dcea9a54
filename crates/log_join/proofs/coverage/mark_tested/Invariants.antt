use Rattle.std.proofs.Common.{◌≡◌, ℕ, take}
use Rattle.scan_model.specs.BitTable.{table_bit}
use Rattle.scan_model.specs.Coverage.{some_holds}
use Rattle.log_join.proofs.coverage.mark_tested.Given as goal

abbrev pub invariant-loop-i : goal.invariant-loop-i
invariant-loop-i l = (w : ℕ) → table_bit l.tested 1 w 0 ≡ some_holds (take l.i l.ranges) w
