-- The Failing and the Passing lanes of places in a block of 512 patterns, by rows of expected values.
use Rattle.std.specs.Prelude.{◌≡◌, ℕ, ◌<◌, List, [], length, slice_index_or}
use Rattle.scan_model.specs.declared.values.Tri.{Tri}
use Rattle.scan_model.specs.declared.logs.LogFacts.{LogFacts}
use Rattle.bit_rows.specs.Lanes.{lane, pattern_of}
use Rattle.log_rows.specs.declared.point_row.PointRow.{PointRow}
use Rattle.log_rows.specs.declared.side.Side.{Side}
use Rattle.log_rows.specs.declared.side.Side.TheVariants.{Failing, Passing}
use Rattle.log_rows.specs.PointRows.{is_on_at, no_point_row}

pub record IsPlaceRow (logs : List LogFacts) (expected : List (List Tri)) (patterns b k : ℕ) (row : PointRow) : Type 0 where
  pub failing : (j : ℕ) → j < 512 → lane row.failing j ≡ is_on_at logs expected patterns Failing (pattern_of b j) k
  pub passing : (j : ℕ) → j < 512 → lane row.passing j ≡ is_on_at logs expected patterns Passing (pattern_of b j) k

-- a row for each place of block b
pub record ArePlaceRows (logs : List LogFacts) (expected : List (List Tri)) (patterns places b : ℕ) (rows : List PointRow) : Type 0 where
  pub len : length rows ≡ places
  pub each : (k : ℕ) → k < length rows → IsPlaceRow logs expected patterns b k (slice_index_or rows k no_point_row)

-- a row of lanes of one side for each place of block b
abbrev pub AreSideLanes : List LogFacts → List (List Tri) → ℕ → ℕ → Side → ℕ → List (List ℕ) → Type 0
AreSideLanes logs expected patterns places side b rows = (j k : ℕ) → j < 512 → k < places → lane (slice_index_or rows k []) j ≡ is_on_at logs expected patterns side (pattern_of b j) k
