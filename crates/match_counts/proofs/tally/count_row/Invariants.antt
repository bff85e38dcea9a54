use Rattle.std.proofs.Common.{◌≡◌, ℕ, ◌+◌, List, [], ◌++◌, get_or}
use Rattle.scan_model.specs.declared.values.Tri.{Tri}
use Rattle.scan_model.specs.declared.logs.Bit.{Bit}
use Rattle.scan_model.specs.declared.logs.LogFacts.{LogFacts}
use Rattle.log_join.specs.Joining.{StandsFor}
use Rattle.fault_universe.specs.BitRows.{row_bits}
use Rattle.match_counts.specs.Tally.{counts_over, AreAtMost}
use Rattle.match_counts.proofs.tally.count_row.Given as goal

abbrev pub invariant-loop-point : goal.invariant-loop-point
invariant-loop-point l = record {
  counts : (logs : List LogFacts) (good bad : ℕ → List Tri) (bits : List Bit) → StandsFor logs l.joined → good l.pattern ≡ get_or l.expected l.pattern [] → bad l.pattern ≡ l.values → l.initial.sum ≡ counts_over logs good bad bits
      → l.sum ≡ counts_over logs good bad (bits ++ row_bits l.pattern l.point);
  at_most : (n : ℕ) → AreAtMost n l.initial.sum → AreAtMost (n + l.point) l.sum;
}
