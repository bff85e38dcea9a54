-- What a scratch shows at the points of a block, as lists of rows.
use Rattle.std.specs.Prelude.{◌≡◌, ℕ, ◌^◌, ◌<◌, List, length, sum_by, Bool, ◌&&◌, slice_index_or, if◌then◌else◌}
use Rattle.std.specs.List.{range_with_len}
use Rattle.scan_model.specs.declared.circuit.PinPlace.{PinPlace}
use Rattle.scan_model.specs.Values.{are_opposite}
use Rattle.scan_model.specs.ScanTest.{ScanTest, points_of, point_at}
use Rattle.scan_model.specs.Masks.{place_is_point}
use Rattle.lane_rows.specs.Lanes.{lane, count_lanes}
use Rattle.packed_sim.specs.declared.good.PackedGood.{PackedGood}
use Rattle.packed_sim.specs.declared.scratch.Scratch.{Scratch}
use Rattle.packed_sim.specs.PackedParts.{block_at, good_at, now_at, observed_at}
use Rattle.log_rows.specs.declared.point_row.PointRow.{PointRow}
use Rattle.log_rows.specs.declared.side.Side.{Side}
use Rattle.log_rows.specs.declared.side.Side.TheVariants.{Failing, Passing}
use Rattle.log_rows.specs.PointRows.{no_point_row}
use Rattle.match_counts.specs.declared.block_count.BlockCount.{BlockCount}
use Rattle.match_counts.specs.declared.flip_rows.FlipRows.{FlipRows}

-- how many lanes of some rows a mask has
abbrev pub tallied : List (List ℕ) → (ℕ → Bool) → ℕ
tallied rows m = sum_by (λ r. count_lanes (λ j. lane r j && m j)) rows

abbrev pub row_on : Side → PointRow → List ℕ
row_on Failing row = row.failing
row_on Passing row = row.passing

abbrev pub point_row_at : List PointRow → ℕ → PointRow
point_row_at rows k = slice_index_or rows k no_point_row

abbrev pub list_on : Side → FlipRows → List (List ℕ)
list_on Failing shown = shown.failing.items
list_on Passing shown = shown.passing.items

abbrev pub count_on : Side → BlockCount → ℕ
count_on Failing count = count.tfsf
count_on Passing count = count.tpsf

-- the net of point k now has the opposite of its fault-free value
abbrev pub differs : ScanTest → PackedGood → Scratch → ℕ → ℕ → ℕ → Bool
differs t g s b k j = are_opposite (good_at g b j (observed_at t k)) (now_at g s b j (observed_at t k))

-- in lane j a pattern captures, the net of point k has the opposite of its fault-free value, and the bit is of the side
abbrev pub caught_lane : ScanTest → PackedGood → Scratch → ℕ → List PointRow → Side → ℕ → ℕ → Bool
caught_lane t g s b rows side k j = (differs t g s b k j && lane (block_at g b).capture j) && lane (row_on side (point_row_at rows k)) j

-- the lists have what a scratch shows at all points
abbrev pub IsShown : ScanTest → PackedGood → Scratch → ℕ → List PointRow → FlipRows → Type 0
IsShown t g s b rows shown = (side : Side) (m : ℕ → Bool) → tallied (list_on side shown) m ≡ sum_by (λ k. count_lanes (λ j. caught_lane t g s b rows side k j && m j)) (range_with_len 0 (length (points_of t)))

-- no mask has 2 ^ 31 lanes
abbrev pub AreFew : FlipRows → Type 0
AreFew shown = (side : Side) (m : ℕ → Bool) → tallied (list_on side shown) m < 2 ^ 31

-- lanes of a mask at a point, where the pin at a place is the one that the point sees
abbrev pub pin_lanes : ScanTest → List PointRow → Side → PinPlace → List ℕ → ℕ → ℕ
pin_lanes t rows side place mask k = if place_is_point t place (point_at t k) then count_lanes (λ j. lane (row_on side (point_row_at rows k)) j && lane mask j) else 0
