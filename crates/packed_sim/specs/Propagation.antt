-- A change that spreads through the gates of a circuit.
use Rattle.std.specs.Prelude.{◌≡◌, ◌≢◌, ◌⊎◌, ℕ, ◌<◌, ◌≤◌, List, length, Bool, true, false, not, ◌==◌, ◌&&◌, ◌||◌, Option, None, Some, Contains, slice_index, slice_index_or, slice_set}
use Rattle.std.specs.List.{list_any, range_with_len}
use Rattle.scan_model.specs.declared.values.Tri.{Tri}
use Rattle.scan_model.specs.declared.values.Tri.TheVariants.{Unknown}
use Rattle.scan_model.specs.Netlist.{Netlist, reads, is_gate}
use Rattle.scan_model.specs.NetValue.{Forced, net_node, values_of, nothing_forced}
use Rattle.scan_model.specs.Cone.{in_fan_in}
use Rattle.lane_rows.specs.Planes.{Planes, held}
use Rattle.place_sets.specs.Places.{has_place, room}
use Rattle.lane_rows.specs.Wiring.{sinks_of, Covers, LeadsUp}
use Rattle.packed_sim.specs.declared.scratch.Scratch.{Scratch}
use Rattle.packed_sim.specs.Rows.{row_now, no_row}

-- the value of a net in a lane
abbrev pub lane_now : List (Option Planes) → List Planes → ℕ → ℕ → Tri
lane_now own good j n = held (row_now own good n) j

-- a place of the net is in the set
abbrev pub waits : List ℕ → List ℕ → ℕ → Bool
waits order words n = list_any (λ k. (slice_index order k == n) && has_place words k) (range_with_len 0 (length order))

pub record FitsScratch (c : Netlist) (order : List ℕ) (good : List Planes) (s : Scratch) : Type 0 where
  pub own : length s.overlay ≡ length c.nets
  pub good_rows : length good ≡ length c.nets
  pub moved_room : length c.nets ≤ room s.moved
  pub room : length order ≤ room s.waiting
  pub places : (k : ℕ) → has_place s.waiting k ≡ true → k < length order

-- what reads a net of the set is in the set
abbrev pub IsClosed : Netlist → (ℕ → Bool) → Type 0
IsClosed c downstream = (g n : ℕ) → g < length c.nets → is_gate c g ≡ true → Contains (reads c g) n → downstream n ≡ true → downstream g ≡ true

-- nothing is forced there, and no pin anywhere
pub record IsFree (downstream : ℕ → Bool) (forced : Forced) : Type 0 where
  pub nets : (n : ℕ) → downstream n ≡ true → forced.net n ≡ None
  pub pins : (p : ℕ) → forced.pin p ≡ None

abbrev pub IsWithin : List ℕ → (ℕ → Bool) → Scratch → Type 0
IsWithin order downstream s = (k : ℕ) → has_place s.waiting k ≡ true → downstream (slice_index order k) ≡ true

-- the net is downstream of one of these nets, and is none of them
abbrev pub is_downstream : Netlist → List ℕ → ℕ → Bool
is_downstream c nets g = not (list_any (λ n. g == n) nets) && list_any (λ n. in_fan_in c n g) nets

-- no gate of these nets is downstream of another one
abbrev pub AreApart : Netlist → List ℕ → Type 0
AreApart c nets = (m n : ℕ) → Contains nets m → Contains nets n → is_gate c n ≡ true → in_fan_in c m n ≡ true → m ≡ n

-- the rows have the values without fault in a lane
abbrev pub AreGood : Netlist → List Planes → (ℕ → Tri) → ℕ → Type 0
AreGood c good source j = (n : ℕ) → n < length c.nets → held (slice_index_or good n no_row) j ≡ values_of c source nothing_forced n

-- of the nets that matter, each has the value of its node, or waits
abbrev pub IsOpen : Netlist → List ℕ → List Planes → (ℕ → Tri) → Forced → (ℕ → Bool) → ℕ → Scratch → Type 0
IsOpen c order good source forced live j s = (n : ℕ) → n < length c.nets → live n ≡ true
    → (waits order s.waiting n ≡ true) ⊎ (lane_now s.overlay good j n ≡ net_node c source forced n (lane_now s.overlay good j))

-- each net that matters has the value of its node
abbrev pub IsSettled : Netlist → List Planes → (ℕ → Tri) → Forced → (ℕ → Bool) → ℕ → Scratch → Type 0
IsSettled c good source forced live j s = (n : ℕ) → n < length c.nets → live n ≡ true → lane_now s.overlay good j n ≡ net_node c source forced n (lane_now s.overlay good j)

-- A net gets a row of its own, and what reads it waits.
pub record IsSet (sinks : List (List ℕ)) (net : ℕ) (row : Planes) (old new : Scratch) : Type 0 where
  pub overlay : new.overlay ≡ slice_set old.overlay net (Some row)
  pub waiting : (k : ℕ) → has_place new.waiting k ≡ (list_any (λ m. k == m) (sinks_of sinks net) || has_place old.waiting k)
  pub moved : (n : ℕ) → has_place new.moved n ≡ ((n == net) || has_place old.moved n)
  pub moved_room : room new.moved ≡ room old.moved
  pub room : room new.waiting ≡ room old.waiting

-- the nets whose rows are others than before are marked as moved, and marks stay
pub record HasMoved (good : List Planes) (old new : Scratch) : Type 0 where
  pub others : (n : ℕ) → has_place new.moved n ≡ false → row_now new.overlay good n ≡ row_now old.overlay good n
  pub kept : (n : ℕ) → has_place old.moved n ≡ true → has_place new.moved n ≡ true

-- The gate at a place is evaluated: it has the value of its node, what reads it waits or it is as before, and all else stays.
pub record IsTurn (c : Netlist) (order : List ℕ) (sinks : List (List ℕ)) (good : List Planes) (place : ℕ) (old new : Scratch) : Type 0 where
  pub own : length new.overlay ≡ length old.overlay
  pub moved_room : room new.moved ≡ room old.moved
  pub moved : HasMoved good old new
  pub room : room new.waiting ≡ room old.waiting
  pub here : (j : ℕ) → j < 512 → lane_now new.overlay good j (slice_index order place) ≡ net_node c (λ n. Unknown) nothing_forced (slice_index order place) (lane_now old.overlay good j)
  pub others : (n : ℕ) → n ≢ slice_index order place → row_now new.overlay good n ≡ row_now old.overlay good n
  pub taken : (k : ℕ) → has_place new.waiting k ≡ true → (has_place old.waiting k ≡ true) × (k ≢ place) ⊎ Contains (sinks_of sinks (slice_index order place)) k
  pub kept : (k : ℕ) → k ≢ place → has_place old.waiting k ≡ true → has_place new.waiting k ≡ true
  pub spread : ((k : ℕ) → Contains (sinks_of sinks (slice_index order place)) k → has_place new.waiting k ≡ true)
      ⊎ ((j : ℕ) → j < 512 → lane_now new.overlay good j (slice_index order place) ≡ lane_now old.overlay good j (slice_index order place))

-- In each lane whose rows were fault-free, each net that leads to a point has its value under what is forced there.
abbrev pub IsForced : Netlist → List ℕ → List (List ℕ) → List Planes → (ℕ → Forced) → Scratch → Type 0
IsForced c order sinks good forced s = (live : ℕ → Bool) (source : ℕ → Tri) (j : ℕ) → j < 512 → Covers c order sinks live → LeadsUp c live → AreGood c good source j
    → (n : ℕ) → n < length c.nets → live n ≡ true → lane_now s.overlay good j n ≡ values_of c source (forced j) n
