-- Ranks of nets in an order of evaluation, and the nets of a pair by their ranks.
use Rattle.std.specs.Prelude.{◌≡◌, ℕ, ◌+◌, ◌-◌, ◌<◌, ◌≤◌, List, length, nat_le, if◌then◌else◌, slice_index}
use Rattle.scan_model.specs.declared.parts.Pair.{Pair}
use Rattle.scan_model.specs.Netlist.{Netlist, IsNetlist}
use Rattle.scan_model.specs.Walks.{IsEvaluationOrder}

-- a net that stands in the order from place k on has the first such place, counted from 1, and no other net has a rank above 0
pub record RanksFrom (order ranks : List ℕ) (k : ℕ) : Type 0 where
  pub placed : (n : ℕ) → 0 < slice_index ranks n → (slice_index ranks n ≤ length order) × (slice_index order (slice_index ranks n - 1) ≡ n)
  pub first : (i : ℕ) → k ≤ i → i < length order → (0 < slice_index ranks (slice_index order i)) × (slice_index ranks (slice_index order i) ≤ i + 1)

-- an order of evaluation, with a rank for each net
pub record IsRanked (c : Netlist) (order ranks : List ℕ) : Type 0 where
  pub netlist : IsNetlist c
  pub evaluation : IsEvaluationOrder c order
  pub count : length ranks ≡ length c.nets
  pub places : RanksFrom order ranks 0

-- the net of a pair that has the lower rank, and the other
abbrev pub start_of : List ℕ → Pair → ℕ
start_of ranks p = if nat_le (slice_index ranks p.a) (slice_index ranks p.b) then p.a else p.b

abbrev pub target_of : List ℕ → Pair → ℕ
target_of ranks p = if nat_le (slice_index ranks p.a) (slice_index ranks p.b) then p.b else p.a
