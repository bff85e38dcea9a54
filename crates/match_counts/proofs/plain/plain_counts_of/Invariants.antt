use Rattle.std.proofs.Common.{◌≡◌, ◌*◌, List, Some, None}
use Rattle.scan_model.specs.declared.logs.LogFacts.{LogFacts}
use Rattle.scan_model.specs.Response.{response}
use Rattle.log_join.specs.Joining.{StandsFor}
use Rattle.fault_universe.specs.BitRows.{bits_upto}
use Rattle.match_counts.specs.Tally.{counts_over, AreAtMost}
use Rattle.match_counts.proofs.plain.plain_counts_of.Given as goal

abbrev pub invariant-loop-pattern : goal.invariant-loop-pattern
invariant-loop-pattern l = record {
  counts : (logs : List LogFacts) → StandsFor logs l.joined → l.counts ≡ counts_over logs (response l.parts None) (response l.parts (Some l.fault)) (bits_upto l.parts l.pattern);
  at_most : AreAtMost (l.pattern * 131072) l.counts;
}
