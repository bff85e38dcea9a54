use Rattle.std.proofs.Common.{◌≡◌, ◌*◌, ◌^◌, List}
use Rattle.std.specs.Prelude.{min}
use Rattle.scan_model.specs.declared.logs.LogFacts.{LogFacts}
use Rattle.scan_model.specs.Classes.{class_with}
use Rattle.log_join.specs.Joining.{StandsFor}
use Rattle.diag_report.specs.BitTally.{tally_over, block_bits, IsTallyOf}
use Rattle.diag_report.proofs.tally.tally_bits.Given as goal

abbrev pub invariant-loop-word : goal.invariant-loop-word
invariant-loop-word l = record {
  classes : (logs : List LogFacts) → StandsFor logs l.joined → l.tally ≡ tally_over (class_with l.expected logs) (block_bits 0 (min l.joined.patterns (64 * l.word)) l.joined.points);
  tally : IsTallyOf l.joined.points (l.word * 64 * 2 ^ 32) l.tally;
}
