-- Rows for the nets that lanes reach, with a lane for each pair of a batch.
use Rattle.std.specs.Prelude.{◌≡◌, ◌<◌, ◌≤◌, ◌==◌, ◌^◌, ◌+◌, ◌-◌, ℕ, zero, suc, List, [], length, map, Bool, Option, Some, None, is_some, unwrap_or, if◌then◌else◌, slice_index_or}
use Rattle.std.specs.List.{list_any}
use Rattle.bit_rows.specs.Lanes.{lane}

-- the row of a slot, which is one more than a place in a list of rows
abbrev pub row_at : List (List ℕ) → ℕ → Option (List ℕ)
row_at rows zero = None
row_at rows (suc i) = Some (slice_index_or rows i [])

-- the row of each net that has one
abbrev pub rows_at : List (List ℕ) → List ℕ → List (Option (List ℕ))
rows_at rows slots = map (row_at rows) slots

abbrev pub has_row : List (Option (List ℕ)) → ℕ → Bool
has_row rows n = is_some (slice_index_or rows n None)

-- net n has the lane of pair j
abbrev pub has_pair : List (Option (List ℕ)) → ℕ → ℕ → Bool
has_pair rows j n = lane (unwrap_or (slice_index_or rows n None) []) j

-- no net has a row
abbrev pub IsBlank : List (Option (List ℕ)) → Type 0
IsBlank rows = (n : ℕ) → slice_index_or rows n None ≡ None

-- the slot of a net after some were emptied
abbrev pub emptied : List ℕ → List ℕ → ℕ → ℕ
emptied nets slots n = if list_any (λ m. n == m) nets then 0 else slice_index_or slots n 0

-- slots and places in the lists name each other
pub record HaveSlots (slots nets : List ℕ) (rows : List (List ℕ)) : Type 0 where
  pub fits : length slots < 2 ^ 32
  pub one_each : length rows ≡ length nets
  pub slot_of : (i : ℕ) → i < length nets → (slice_index_or nets i 0 < length slots) × (slice_index_or slots (slice_index_or nets i 0) 0 ≡ i + 1)
  pub net_of : (n : ℕ) → n < length slots → 0 < slice_index_or slots n 0 → (slice_index_or slots n 0 ≤ length nets) × (slice_index_or nets (slice_index_or slots n 0 - 1) 0 ≡ n)
