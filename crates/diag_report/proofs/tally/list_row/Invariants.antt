use Rattle.std.proofs.Common.{◌≡◌, ℕ, List, map, take}
use Rattle.scan_model.specs.declared.logs.LogFacts.{LogFacts}
use Rattle.scan_model.specs.Coverage.{bit_of}
use Rattle.scan_model.specs.Classes.{class_with}
use Rattle.log_join.specs.Joining.{StandsFor}
use Rattle.diag_report.specs.BitTally.{listed_over, IsTallyOf}
use Rattle.diag_report.proofs.tally.list_row.Given as goal

abbrev pub invariant-loop-i : goal.invariant-loop-i
invariant-loop-i l = record {
  listed : (logs : List LogFacts) → StandsFor logs l.joined → l.tally ≡ listed_over (class_with l.expected logs) (map (bit_of l.pattern) (take l.i l.points)) l.initial.tally;
  tally : (n : ℕ) → IsTallyOf l.joined.points n l.initial.tally → IsTallyOf l.joined.points n l.tally;
}
