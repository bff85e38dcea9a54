-- What a table of places and lanes has in the rows of a block's places, side by side.
use Rattle.std.specs.Prelude.{◌≡◌, ℕ, List, length, sum_by, Bool, ◌&&◌}
use Rattle.std.specs.List.{range_with_len}
use Rattle.scan_model.specs.Netlist.{pin_at}
use Rattle.scan_model.specs.ScanTest.{ScanTest, point_at}
use Rattle.scan_model.specs.Masks.{flip_shows_from, place_is_point}
use Rattle.lane_rows.specs.Lanes.{lane, count_lanes}
use Rattle.lane_rows.specs.GoodRows.{pattern_of}
use Rattle.lane_rows.specs.Stimuli.{Stimuli}
use Rattle.packed_sim.specs.PackedParts.{observed_at}
use Rattle.log_rows.specs.declared.point_row.PointRow.{PointRow}
use Rattle.log_rows.specs.declared.side.Side.{Side}
use Rattle.fault_effects.specs.FaultModel.{Table}
use Rattle.match_counts.specs.declared.block_count.BlockCount.{BlockCount}
use Rattle.match_counts.specs.declared.flip_rows.FlipRows.{FlipRows}
use Rattle.match_counts.specs.Flips.{tallied, row_on, point_row_at, list_on, count_on}

-- how many lanes it has of the row of place q
abbrev pub lanes_of : List PointRow → Side → Table → ℕ → ℕ
lanes_of rows side c q = count_lanes (λ j. c q j && lane (row_on side (point_row_at rows q)) j)

-- how many lanes it has of the rows of all places
abbrev pub sum_of_table : List PointRow → Side → Table → ℕ
sum_of_table rows side c = sum_by (lanes_of rows side c) (range_with_len 0 (length rows))

-- under each mask the lists have what the table has
abbrev pub HasTable : List PointRow → FlipRows → Table → Type 0
HasTable rows shown c = (side : Side) (m : ℕ → Bool) → tallied (list_on side shown) m ≡ sum_of_table rows side (λ q j. c q j && m j)

-- the counts are the table's
abbrev pub IsCount : List PointRow → BlockCount → Table → Type 0
IsCount rows count c = (side : Side) → count_on side count ≡ sum_of_table rows side c

-- in the lanes of block b where a flip of net n shows at point q, over what drives the patterns
abbrev pub shown_under : ScanTest → Stimuli → ℕ → ℕ → Table
shown_under t σ b n q j = σ.captures (pattern_of b j) && flip_shows_from t.netlist (σ.source (pattern_of b j)) n (observed_at t q)

-- in some lanes, at the points that see pin p
abbrev pub seen_in : ScanTest → ℕ → List ℕ → Table
seen_in t p row q j = lane row j && place_is_point t (pin_at t.netlist p).place (point_at t q)
