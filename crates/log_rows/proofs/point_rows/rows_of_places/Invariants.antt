use Rattle.std.proofs.Common.{◌≡◌, ℕ, ◌<◌, List, length, get_or}
use Rattle.scan_model.specs.declared.logs.LogFacts.{LogFacts}
use Rattle.log_join.specs.Joining.{StandsFor}
use Rattle.log_rows.specs.PointRows.{no_point_row}
use Rattle.log_rows.specs.PlaceRows.{IsPlaceRow}
use Rattle.log_rows.proofs.point_rows.rows_of_places.Given as goal

abbrev pub invariant-loop-place : goal.invariant-loop-place
invariant-loop-place l = record {
  len : length l.rows ≡ l.place;
  each : (logs : List LogFacts) → StandsFor logs l.joined → (k : ℕ) → k < l.place → IsPlaceRow logs l.expected l.joined.patterns l.block k (get_or l.rows k no_point_row);
}
