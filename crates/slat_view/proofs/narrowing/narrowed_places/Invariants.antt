use Rattle.std.proofs.Common.{◌≡◌, ◌*◌, List, length}
use Rattle.scan_model.specs.declared.logs.LogFacts.{LogFacts}
use Rattle.scan_model.specs.Universe.{universe}
use Rattle.log_join.specs.Joining.{StandsFor}
use Rattle.slat_view.specs.FitMarks.{HaveFitsUpTo}
use Rattle.slat_view.proofs.narrowing.narrowed_places.Given as goal

abbrev pub invariant-loop-b : goal.invariant-loop-b
invariant-loop-b l = record {
  len : length l.marks.items ≡ length (universe l.parts);
  fits : (logs : List LogFacts) → StandsFor logs l.joined → HaveFitsUpTo l.parts logs (512 * l.b) l.marks.items;
}
