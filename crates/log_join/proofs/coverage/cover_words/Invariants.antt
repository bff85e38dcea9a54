use Rattle.std.proofs.Common.{◌≡◌, ℕ, ◌/◌, ◌<◌, ◌&&◌, ◌||◌, nat_lt, get_or}
use Rattle.scan_model.specs.BitTable.{table_bit}
use Rattle.log_join.proofs.coverage.cover_words.Given as goal

abbrev pub invariant-loop-word : goal.invariant-loop-word
invariant-loop-word l = (w k : ℕ) → k < l.points → table_bit l.words l.points w k
    ≡ (nat_lt (w / 64) l.word && (table_bit l.tested 1 w 0 && nat_lt w (get_or l.ends k 0)) || table_bit l.initial.words l.points w k)
