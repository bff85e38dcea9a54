-- Rows of some nets, over the rows of a block.
use Rattle.std.specs.Prelude.{◌≡◌, [], ℕ, zero, suc, ◌+◌, ◌-◌, ◌<◌, ◌≤◌, ◌^◌, List, length, map, Option, Some, None, unwrap_or, ◌==◌, if◌then◌else◌, slice_index_or}
use Rattle.std.specs.List.{list_any}
use Rattle.std.specs.Borrow.{Bor}
use Rattle.lane_rows.specs.Planes.{Planes}
use Rattle.lane_rows.specs.Sources.{no_planes}

-- what stands past the end of a list of rows
abbrev pub no_row : Planes
no_row = no_planes

abbrev pub row_at : List Planes → ℕ → Option Planes
row_at rows zero = None
row_at rows (suc i) = Some (slice_index_or rows i no_row)

-- the row of each net that has one
abbrev pub rows_at : List Planes → List ℕ → List (Option Planes)
rows_at rows slots = map (row_at rows) slots

-- no net has a row of its own
abbrev pub IsClean : List (Option Planes) → Type 0
IsClean own = (n : ℕ) → slice_index_or own n None ≡ None

-- the row of a net: its own, else that of the block
abbrev pub row_now : List (Option Planes) → List Planes → ℕ → Planes
row_now own good n = unwrap_or (slice_index_or own n None) (slice_index_or good n no_row)

-- the place of a net after some were sent home
abbrev pub at_home : List ℕ → List ℕ → ℕ → ℕ
at_home nets places n = if list_any (λ m. n == m) nets then n else slice_index_or places n 0

-- Slots and places in the lists name each other, and each net has room.
pub record IsDense (slots nets : List ℕ) (rows : List Planes) (nets_room rows_room : ℕ) : Type 0 where
  pub fits : length slots < 2 ^ 32
  pub one_each : length rows ≡ length nets
  pub slot_of : (i : ℕ) → i < length nets → (slice_index_or nets i 0 < length slots) × (slice_index_or slots (slice_index_or nets i 0) 0 ≡ i + 1)
  pub net_of : (n : ℕ) → n < length slots → 0 < slice_index_or slots n 0 → (slice_index_or slots n 0 ≤ length nets) × (slice_index_or nets (slice_index_or slots n 0 - 1) 0 ≡ n)
  pub room_of_nets : length slots ≤ nets_room
  pub room_of_rows : length slots ≤ rows_room

-- the slot of each place: 0 below 2 ^ 31, else one more than what the place is above it
abbrev pub slots_of : List ℕ → List ℕ
slots_of places = map (λ p. p - 2147483647) places

-- a place below 2 ^ 31 is the number of its net
abbrev pub AreHome : List ℕ → Type 0
AreHome places = (n : ℕ) → n < length places → slice_index_or places n 0 < 2147483648 → slice_index_or places n 0 ≡ n

-- the places of nets and the lists of a change belong together
pub record IsLaid (places nets : List ℕ) (rows : List Planes) (nets_room rows_room : ℕ) : Type 0 where
  pub dense : IsDense (slots_of places) nets rows nets_room rows_room
  pub home : AreHome places
  pub few : length places ≤ 2147483648
  pub few_rows : length rows ≤ length places

-- a list of rows among those that are lent
abbrev pub lent_at : List (Bor (List Planes)) → ℕ → List Planes
lent_at lists i = slice_index_or (map (λ rows. rows.now) lists) i []

-- the rows that a change gave to nets, and those of the block
pub record RowsOver : Type 0 where
  pub own : List (Option Planes)
  pub good : List Planes

-- the place of each net is that of a row of the block, its own number, or of one of the change
pub record AreFound (places : List ℕ) (good own : List Planes) : Type 0 where
  pub fits : length places ≡ length good
  pub home : AreHome places
  pub inside : (n : ℕ) → n < length places → 2147483648 ≤ slice_index_or places n 0 → slice_index_or places n 0 < 2147483648 + length own
  pub few : length own ≤ 2147483648
