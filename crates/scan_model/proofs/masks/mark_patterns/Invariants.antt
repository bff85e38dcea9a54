use Rattle.std.proofs.Common.{◌≡◌, ℕ, ◌/◌, ◌&&◌, ◌||◌, nat_lt, nat_le}
use Rattle.scan_model.specs.BitTable.{table_bit}
use Rattle.scan_model.proofs.masks.mark_patterns.Given as goal

abbrev pub invariant-loop-word : goal.invariant-loop-word
invariant-loop-word l = (w : ℕ) → table_bit l.words 1 w 0 ≡ (nat_lt (w / 64) l.word && (nat_le l.first w && nat_le w l.last) || table_bit l.initial.words 1 w 0)
