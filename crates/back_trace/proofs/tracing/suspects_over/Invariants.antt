use Rattle.std.proofs.Common.{◌≡◌, List, length}
use Rattle.scan_model.specs.declared.logs.LogFacts.{LogFacts}
use Rattle.log_join.specs.Joining.{StandsFor}
use Rattle.scan_model.specs.Universe.{universe}
use Rattle.back_trace.proofs.SuspectMarks.{AreMarkedTo}
use Rattle.back_trace.proofs.tracing.suspects_over.Given as goal

abbrev pub invariant-loop-b : goal.invariant-loop-b
invariant-loop-b l = record {
  len : length l.marks.items ≡ length (universe l.parts);
  marked : (logs : List LogFacts) → StandsFor logs l.joined → AreMarkedTo l.parts logs l.b l.marks.items;
}
