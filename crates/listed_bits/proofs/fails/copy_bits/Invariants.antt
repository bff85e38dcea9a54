use Rattle.std.proofs.Common.{◌≡◌, ℕ, ◌<◌, cond, take}
use Rattle.std.specs.List.{list_any}
use Rattle.scan_model.specs.BitTable.{table_bit}
use Rattle.scan_model.specs.Coverage.{bit_of, same_bit}
use Rattle.listed_bits.proofs.fails.copy_bits.Given as goal

abbrev pub invariant-loop-i : goal.invariant-loop-i
invariant-loop-i l = (w k : ℕ) → k < l.points → table_bit l.into l.points w k
    ≡ cond (list_any (same_bit (bit_of w k)) (take l.i l.fails)) (table_bit l.from l.points w k) (table_bit l.initial.into l.points w k)
