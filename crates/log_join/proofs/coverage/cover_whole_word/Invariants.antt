use Rattle.std.proofs.Common.{◌≡◌, ℕ, ◌/◌, ◌%◌, ◌<◌, ◌==◌, ◌&&◌, ◌||◌, nat_lt}
use Rattle.std.specs.Int.{bit_at}
use Rattle.scan_model.specs.BitTable.{table_bit}
use Rattle.log_join.proofs.coverage.cover_whole_word.Given as goal

abbrev pub invariant-loop-point : goal.invariant-loop-point
invariant-loop-point l = (w k : ℕ) → k < l.points → table_bit l.words l.points w k
    ≡ ((w / 64 == l.word) && nat_lt k l.point && (bit_at l.mask (w % 64) == 1) || table_bit l.initial.words l.points w k)
