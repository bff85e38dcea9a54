use Rattle.std.proofs.Common.{◌≡◌, ◌*◌, ◌-◌, ℕ, List}
use Rattle.scan_model.specs.declared.logs.LogFacts.{LogFacts}
use Rattle.scan_model.specs.Classes.{class_with}
use Rattle.log_join.specs.Joining.{StandsFor}
use Rattle.diag_report.specs.BitTally.{block_bits, listed_over, IsTallyOf}
use Rattle.diag_report.proofs.tally.list_word.Given as goal

abbrev pub invariant-loop-pattern : goal.invariant-loop-pattern
invariant-loop-pattern l = record {
  listed : (logs : List LogFacts) → StandsFor logs l.joined → l.tally ≡ listed_over (class_with l.expected logs) (block_bits (64 * l.word) (l.pattern - 64 * l.word) l.points) l.initial.tally;
  tally : (n : ℕ) → IsTallyOf l.joined.points n l.initial.tally → IsTallyOf l.joined.points n l.tally;
}
