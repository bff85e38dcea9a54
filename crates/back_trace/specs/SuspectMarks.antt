-- The marks on faults that can explain a failing bit, after a block.
use Rattle.std.specs.Prelude.{◌≡◌, ◌⊎◌, ℕ, ◌+◌, ◌<◌, List, length, Bool, true, false, slice_get, slice_index_or}
use Rattle.scan_model.specs.declared.circuit.PinPlace.{PinPlace}
use Rattle.scan_model.specs.declared.circuit.PinPlace.TheVariants as place
use Rattle.scan_model.specs.declared.fault.Fault.{Fault}
use Rattle.scan_model.specs.declared.fault.Fault.TheVariants as fault
use Rattle.scan_model.specs.declared.fault.Stuck.TheVariants as stuck
use Rattle.scan_model.specs.Marks.{is_marked}
use Rattle.scan_model.specs.ScanTest.{ScanTest, IsScanTest, points_of}
use Rattle.scan_model.specs.Universe.{universe}
use Rattle.lane_rows.specs.declared.block.Block.{Block}
use Rattle.lane_rows.specs.GoodRows.{AreBlockRows}
use Rattle.explained_lanes.specs.declared.trace.Trace.{Trace}
use Rattle.explained_lanes.specs.Fails.{explains_in, IsWithin}
use Rattle.explained_lanes.specs.Traces.{lane_at, IsTraceOf}

-- what stands past the end of the faults
abbrev pub no_fault : Fault
no_fault = fault.Stem 0 stuck.Zero

-- of the first faults, those are marked that were, and those that can explain a failing bit of block b; the rest keep their marks
pub record AreMarked (t : ScanTest) (b : ℕ) (rows : List (List ℕ)) (faults : List Fault) (count : ℕ) (old new : List Bool) : Type 0 where
  pub len : length new ≡ length old
  pub found : (p : ℕ) → is_marked new p ≡ true → (is_marked old p ≡ true) ⊎ ((p < count) × ((j : ℕ) × (j < 512) × (explains_in t (slice_index_or faults p no_fault) b rows j ≡ true)))
  pub kept : (p : ℕ) → is_marked old p ≡ true → is_marked new p ≡ true
  pub all : (p j : ℕ) → p < count → j < 512 → explains_in t (slice_index_or faults p no_fault) b rows j ≡ true → is_marked new p ≡ true

abbrev pub IsPlaceBelow : ℕ → PinPlace → Type 0
IsPlaceBelow nets (place.Operand n i) = n < nets
IsPlaceBelow nets (place.Output k) = Unit {0}

-- neither the net of an operand nor its own cell has a lane
abbrev pub IsUnreached : Trace → PinPlace → Type 0
IsUnreached x (place.Operand n i) = ((j : ℕ) → j < 512 → lane_at x.reach j n ≡ false) × ((j : ℕ) → j < 512 → lane_at x.cells j n ≡ false)
IsUnreached x (place.Output k) = ⊥

-- the trace of a block of a sound design
pub record IsTraced (t : ScanTest) (block : Block) (x : Trace) : Type 0 where
  pub sound : IsScanTest t
  pub trace : IsTraceOf t block.capture block.shift x
  pub fails : length x.fails ≡ length (points_of t)
  pub values : length block.values ≡ length t.netlist.nets
  pub few : length (universe t) < 4294967296

-- the faults stand in the list of all from a place on
abbrev pub StandAt : ScanTest → ℕ → List Fault → Type 0
StandAt t first faults = (k : ℕ) → k < length faults → slice_get (universe t) (first + k) ≡ slice_get faults k

-- where the faults before one place are marked rightly, those before another are now
abbrev pub MarksOn : ScanTest → Block → Trace → ℕ → ℕ → List Bool → List Bool → Type 0
MarksOn t block x from to old new = (b : ℕ) → AreBlockRows t b block → IsWithin t b x.fails → (first : List Bool) → AreMarked t b x.fails (universe t) from first old → AreMarked t b x.fails (universe t) to first new
