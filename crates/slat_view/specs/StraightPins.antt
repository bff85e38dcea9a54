-- What a stuck pin that goes straight to points shows at one of them.
use Rattle.std.specs.Prelude.{ℕ, List, Bool, ◌&&◌, if◌then◌else◌}
use Rattle.scan_model.specs.declared.circuit.PinPlace.{PinPlace}
use Rattle.scan_model.specs.ScanTest.{ScanTest, point_at}
use Rattle.scan_model.specs.Masks.{place_is_point}
use Rattle.lane_rows.specs.Lanes.{lane, count_lanes}
use Rattle.log_rows.specs.declared.point_row.PointRow.{PointRow}
use Rattle.log_rows.specs.declared.side.Side.{Side}
use Rattle.match_counts.specs.Flips.{row_on, point_row_at}

-- lanes of a side that two masks have, where the pin at a place is the one that the point sees
abbrev pub shown_at : ScanTest → List PointRow → Side → PinPlace → List ℕ → (ℕ → Bool) → ℕ → ℕ
shown_at t rows side place mask m k =
    if place_is_point t place (point_at t k) then count_lanes (λ j. (lane mask j && lane (row_on side (point_row_at rows k)) j) && m j) else 0
