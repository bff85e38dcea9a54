use Rattle.std.proofs.Common.{◌≡◌, ℕ, ◌<◌, ◌||◌, take}
use Rattle.std.specs.List.{list_any}
use Rattle.scan_model.specs.BitTable.{table_bit}
use Rattle.scan_model.specs.Coverage.{bit_of, same_bit}
use Rattle.listed_bits.proofs.fails.set_listed.Given as goal

abbrev pub invariant-loop-i : goal.invariant-loop-i
invariant-loop-i l = (w k : ℕ) → k < l.points → table_bit l.words l.points w k ≡ (list_any (same_bit (bit_of w k)) (take l.i l.fails) || table_bit l.initial.words l.points w k)
