-- From where the failing bits of a block can be reached.
use Rattle.std.specs.Prelude.{◌≡◌, ℕ, ◌+◌, ◌<◌, List, [], length, drop, Bool, false, ◌&&◌, Option, Some, None, ◌||◌, nat_lt, nat_le, slice_index_or}
use Rattle.std.specs.List.{list_any}
use Rattle.scan_model.specs.declared.circuit.PinPlace.{PinPlace}
use Rattle.scan_model.specs.declared.circuit.PinPlace.TheVariants as place
use Rattle.scan_model.specs.declared.parts.Point.{Point}
use Rattle.scan_model.specs.ScanTest.{ScanTest, chain_at}
use Rattle.scan_model.specs.Suspect.{net_reaches, is_cell, is_cell_up_to, is_cell_behind}
use Rattle.lane_rows.specs.Lanes.{lane}
use Rattle.explained_lanes.specs.declared.trace.Trace.{Trace}
use Rattle.explained_lanes.specs.Fails.{any_fail, Tells}

-- lane j of the row of net n
abbrev pub lane_at : List (List ℕ) → ℕ → ℕ → Bool
lane_at rows j n = lane (slice_index_or rows n []) j

-- a point of chain h up to position c, or in a lane of the row one past it
abbrev pub is_shifted_through : List ℕ → ℕ → ℕ → ℕ → Point → Bool
is_shifted_through shift j h c point = is_cell_up_to h c point || (lane shift j && is_cell_behind h c point)

-- the position is at or past the first one, if there is one
abbrev pub is_from : Option ℕ → ℕ → Bool
is_from None c = false
is_from (Some first) c = nat_le first c

-- the first position of chain h from which on each fault after a cell can explain a failing bit on its way out
abbrev pub IsFirst : ScanTest → List (List ℕ) → List ℕ → ℕ → Option ℕ → Type 0
IsFirst t rows shift h first = (c : ℕ) → Tells (is_from first c) (λ j. any_fail t rows j (is_shifted_through shift j h c))

-- the greatest position whose cell reaches a failing bit, 0 where there is none
abbrev pub IsLastReached : List (List ℕ) → List ℕ → ℕ → Type 0
IsLastReached reach cells last = (c : ℕ) → Tells (nat_lt c last) (λ j. list_any (lane_at reach j) (drop (c + 1) cells))

-- the gate, the flop or the output of a place is there
abbrev pub IsPlaceIn : ScanTest → PinPlace → Type 0
IsPlaceIn t (place.Operand n i) = n < length t.netlist.nets
IsPlaceIn t (place.Output k) = k < length t.netlist.outputs

-- Rows of nets: in which captured lanes a net reaches a failing bit, and in which its own cell fails. Of each chain: the
-- first position that explains a bit on its way out, and the last that reaches one.
pub record IsTraceOf (t : ScanTest) (capture shift : List ℕ) (x : Trace) : Type 0 where
  pub reach : (j n : ℕ) → j < 512 → n < length t.netlist.nets → lane_at x.reach j n ≡ (lane capture j && any_fail t x.fails j (net_reaches t n))
  pub cells : (j n : ℕ) → j < 512 → n < length t.netlist.nets → lane_at x.cells j n ≡ (lane capture j && any_fail t x.fails j (is_cell t n))
  pub firsts : (h : ℕ) → h < length t.chains → IsFirst t x.fails shift h (slice_index_or x.firsts h None)
  pub lasts : (h : ℕ) → h < length t.chains → IsLastReached x.reach (chain_at t h).cells (slice_index_or x.lasts h 0)
  pub lengths : (length x.reach ≡ length t.netlist.nets) × (length x.cells ≡ length t.netlist.nets) × (length x.firsts ≡ length t.chains) × (length x.lasts ≡ length t.chains)
