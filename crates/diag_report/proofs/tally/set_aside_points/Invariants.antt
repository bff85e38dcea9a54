use Rattle.std.proofs.Common.{◌+◌, ◌*◌, ◌<◌, ℕ, List, map}
use Rattle.std.specs.Prelude.{All}
use Rattle.scan_model.specs.declared.logs.LogFacts.{LogFacts}
use Rattle.scan_model.specs.Coverage.{bit_of}
use Rattle.scan_model.specs.Classes.{class_with}
use Rattle.log_join.specs.Joining.{StandsFor}
use Rattle.fault_universe.specs.BitRows.{row_bits}
use Rattle.diag_report.specs.BitTally.{HaveSameAside}
use Rattle.diag_report.proofs.tally.set_aside_points.Given as goal

abbrev pub invariant-loop-point : goal.invariant-loop-point
invariant-loop-point l = record {
  inside : All (λ k. k < l.points) l.found;
  aside : (logs : List LogFacts) → StandsFor logs l.joined → (j : ℕ) → j < 64 → 64 * l.word + j < l.joined.patterns
      → HaveSameAside (class_with l.expected logs) (map (bit_of (64 * l.word + j)) l.found) (row_bits (64 * l.word + j) l.point);
}
