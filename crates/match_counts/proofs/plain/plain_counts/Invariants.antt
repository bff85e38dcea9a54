use Rattle.std.proofs.Common.{◌≡◌, List, take}
use Rattle.scan_model.specs.declared.logs.LogFacts.{LogFacts}
use Rattle.scan_model.specs.Universe.{universe}
use Rattle.scan_model.specs.MatchCounts.{candidates_among}
use Rattle.log_join.specs.Joining.{StandsFor}
use Rattle.match_counts.proofs.plain.plain_counts.Given as goal

abbrev pub invariant-loop-place : goal.invariant-loop-place
invariant-loop-place l = (logs : List LogFacts) → StandsFor logs l.joined → l.rows ≡ candidates_among (take l.place (universe l.parts)) l.parts logs
