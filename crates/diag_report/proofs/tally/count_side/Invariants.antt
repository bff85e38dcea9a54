use Rattle.std.proofs.Common.{◌≡◌, ◌*◌, ◌≤◌, List, length}
use Rattle.std.specs.Prelude.{filter}
use Rattle.scan_model.specs.declared.logs.LogFacts.{LogFacts}
use Rattle.scan_model.specs.Classes.{class_with}
use Rattle.log_rows.specs.PointRows.{is_on}
use Rattle.log_join.specs.Joining.{StandsFor}
use Rattle.diag_report.specs.BitTally.{word_block}
use Rattle.diag_report.proofs.tally.count_side.Given as goal

abbrev pub invariant-loop-point : goal.invariant-loop-point
invariant-loop-point l = record {
  count : (logs : List LogFacts) → StandsFor logs l.joined → l.count ≡ length (filter (λ b. is_on l.side (class_with l.expected logs b)) (word_block l.joined.patterns l.word l.point));
  few : l.count ≤ 64 * l.point;
}
