-- The rows of nets by slots: a net's slot is the place of its row, and nets without lanes share the first.
use Rattle.std.specs.Prelude.{◌≡◌, ◌⊎◌, ℕ, ◌<◌, List, [], length, map, false, slice_index_or}
use Rattle.lane_rows.specs.Lanes.{lane}

abbrev pub row_of : List (List ℕ) → ℕ → List ℕ
row_of rows slot = slice_index_or rows slot []

abbrev pub rows_at : List (List ℕ) → List ℕ → List (List ℕ)
rows_at rows slots = map (row_of rows) slots

-- each slot has a row, no two nets share one but the first, and the first has no lane
pub record AreSlots (slots : List ℕ) (rows : List (List ℕ)) : Type 0 where
  pub blank : (0 < length rows) × ((j : ℕ) → j < 512 → lane (row_of rows 0) j ≡ false)
  pub inside : (n : ℕ) → n < length slots → slice_index_or slots n 0 < length rows
  pub own : (n m : ℕ) → n < length slots → m < length slots → slice_index_or slots n 0 ≡ slice_index_or slots m 0 → (n ≡ m) ⊎ (slice_index_or slots n 0 ≡ 0)
