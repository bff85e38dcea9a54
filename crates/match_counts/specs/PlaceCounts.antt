-- What a table of places and lanes has in the rows of a block's places, place by place.
use Rattle.std.specs.Prelude.{◌≡◌, ℕ, ◌<◌, ◌≤◌, All, List, length, sum_by, slice_index_or}
use Rattle.log_rows.specs.declared.point_row.PointRow.{PointRow}
use Rattle.log_rows.specs.declared.side.Side.{Side}
use Rattle.fault_effects.specs.FaultModel.{Table}
use Rattle.match_counts.specs.declared.block_count.BlockCount.{BlockCount}
use Rattle.match_counts.specs.Flips.{count_on}
use Rattle.match_counts.specs.Tables.{lanes_of}

abbrev pub no_count : BlockCount
no_count = record { tfsf = 0; tpsf = 0 }

abbrev pub counted_at : List BlockCount → ℕ → BlockCount
counted_at counts q = slice_index_or counts q no_count

-- no side has more than the lanes of a row
abbrev pub IsSmall : BlockCount → Type 0
IsSmall count = (side : Side) → count_on side count ≤ 512

-- counts of so many places as a test may have points, each small, with their sum
pub record AreSummed (counts : List BlockCount) (sum : BlockCount) : Type 0 where
  pub few : length counts ≤ 131072
  pub small : All IsSmall counts
  pub sums : (side : Side) → count_on side sum ≡ sum_by (count_on side) counts

-- each count is what the table has of the row of its place
pub record ArePlaceCounts (rows : List PointRow) (counts : List BlockCount) (c : Table) : Type 0 where
  pub len : length counts ≡ length rows
  pub each : (q : ℕ) → q < length rows → (side : Side) → count_on side (counted_at counts q) ≡ lanes_of rows side c q
