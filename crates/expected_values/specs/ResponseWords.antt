-- Responses of places: 512 patterns in a row, 64 patterns in a word.
use Rattle.std.specs.Prelude.{◌≡◌, ℕ, ◌+◌, ◌*◌, ◌/◌, ◌<◌, List, [], length, slice_index_or}
use Rattle.scan_model.specs.declared.values.Tri.{Tri}
use Rattle.scan_model.specs.BitTable.{table_value}
use Rattle.scan_model.specs.ChainShift.{value_at}
use Rattle.lane_rows.specs.Planes.{Planes, held}
use Rattle.lane_rows.specs.Sources.{no_planes}
use Rattle.lane_rows.specs.GoodRows.{pattern_of}
use Rattle.expected_values.specs.declared.expected.ResponseWords.{ResponseWords}

-- a row for each place, with its values in the patterns of block b, as far as there are patterns
pub record ShowsBlock (table : List (List Tri)) (places b : ℕ) (rows : List Planes) : Type 0 where
  pub len : length rows ≡ places
  pub value : (j k : ℕ) → j < 512 → k < places → pattern_of b j < length table
      → held (slice_index_or rows k no_planes) j ≡ value_at (slice_index_or table (pattern_of b j) []) k

-- there are n words, which have the values of their patterns, as far as there are patterns
pub record AreResponseWords (table : List (List Tri)) (places n : ℕ) (words : ResponseWords) : Type 0 where
  pub known : length words.known ≡ n
  pub ones : length words.ones ≡ n
  pub value : (w k : ℕ) → w < length table → k < places → w / 64 * places + k < n
      → table_value words.known words.ones places w k ≡ value_at (slice_index_or table w []) k
