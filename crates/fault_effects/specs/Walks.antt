-- The notes of a walk along a chain: for each place, the lanes in which a fault fails there.
use Rattle.std.specs.Prelude.{◌≡◌, ◌⊎◌, ℕ, ◌+◌, ◌<◌, ◌≤◌, List, Contains, map, length, slice_index, true, Option, Some, None}
use Rattle.scan_model.specs.declared.fault.CellKind.{CellKind}
use Rattle.scan_model.specs.declared.fault.Fault.{Fault}
use Rattle.scan_model.specs.declared.fault.Fault.TheVariants as fault
use Rattle.scan_model.specs.declared.parts.Point.TheVariants.{Cell}
use Rattle.scan_model.specs.ScanTest.{ScanTest, points_of, point_at, chain_at}
use Rattle.scan_model.specs.Suspect.{observed_net}
use Rattle.place_sets.specs.Places.{has_place}
use Rattle.packed_sim.specs.declared.good.PackedGood.{PackedGood}
use Rattle.packed_sim.specs.declared.scratch.Scratch.{Scratch}
use Rattle.packed_sim.specs.PackedParts.{observed_at, IsScratchIn}
use Rattle.packed_sim.specs.ChainLoads.{IsLoaded}
use Rattle.fault_effects.specs.declared.notes.Notes.{Notes}
use Rattle.fault_effects.specs.FaultModel.{FaultModel, Table, fails_in}
use Rattle.fault_effects.specs.Tables.{row_at, table_of}
use Rattle.fault_effects.specs.Notes.{AreNotes}

-- the row of place q has the lanes in which the fault fails there
abbrev pub IsFresh : FaultModel → ℕ → Fault → List (List ℕ) → ℕ → Type 0
IsFresh m b f rows q = (j : ℕ) → j < 512 → table_of rows q j ≡ fails_in m b f q j

-- the row of each place that sees point k has the lanes in which the fault fails there
abbrev pub ArePlacesFresh : FaultModel → ℕ → Fault → List (List ℕ) → ℕ → Type 0
ArePlacesFresh m b f rows k = (q : ℕ) → q < m.places → m.sees q k ≡ true → IsFresh m b f rows q

-- the rows of the places that see the points at net n have the lanes in which the fault fails there
abbrev pub AreFreshAt : ScanTest → FaultModel → ℕ → Fault → List (List ℕ) → ℕ → Type 0
AreFreshAt t m b f rows n = (k : ℕ) → k < length (points_of t) → observed_at t k ≡ n → ArePlacesFresh m b f rows k

-- The rows of the places that see the points at net n are right, and where such a point is a cell of chain h, so are those of the places that see the cell before it.
pub record IsNetDone (t : ScanTest) (m : FaultModel) (b : ℕ) (f : Fault) (h : ℕ) (rows : List (List ℕ)) (n : ℕ) : Type 0 where
  pub own : AreFreshAt t m b f rows n
  pub below : (k i : ℕ) → k < length (points_of t) → observed_at t k ≡ n → point_at t k ≡ Cell h (i + 1) → AreFreshAt t m b f rows (observed_net t (Cell h i))

-- the net has a mark, and a point observes it
abbrev pub IsMovedAndObserved : ScanTest → Scratch → ℕ → Type 0
IsMovedAndObserved t s n = (has_place s.moved n ≡ true) × Contains (map (observed_net t) (points_of t)) n

-- each row now has the lanes in which the fault fails, or is what it was
abbrev pub IsRenoted : FaultModel → ℕ → Fault → List (List ℕ) → List (List ℕ) → Type 0
IsRenoted m b f old new = (q : ℕ) → IsFresh m b f new q ⊎ (row_at new q ≡ row_at old q)

-- After a step down to position c the rows are right of the places that see points at nets that changed, or the cells before these, or the two cells of the step.
pub record IsStepNoted (t : ScanTest) (m : FaultModel) (b h c : ℕ) (K : CellKind) (s : Scratch) (old new : List (List ℕ)) : Type 0 where
  pub renoted : IsRenoted m b (fault.Cell h c K) old new
  pub moved : (n : ℕ) → n < length t.netlist.nets → has_place s.moved n ≡ true → IsNetDone t m b (fault.Cell h c K) h new n
  pub here : AreFreshAt t m b (fault.Cell h c K) new (observed_net t (Cell h c))
  pub above : AreFreshAt t m b (fault.Cell h c K) new (observed_net t (Cell h (c + 1)))

-- In block b chain h is loaded as under the fault after position c, and the notes are the fault's.
pub record IsWalkAt {S : Type 0} (t : ScanTest) (g : PackedGood) (m : FaultModel) (sums : S → Table → Type 0) (b h c : ℕ) (K : CellKind) (s : Scratch) (notes : Notes S) : Type 0 where
  pub chain : h < length t.chains
  pub pos : c < length (chain_at t h).cells
  pub loaded : IsLoaded t g b h c K s
  pub noted : AreNotes sums m.places notes
  pub fresh : (q : ℕ) → q < m.places → IsFresh m b (fault.Cell h c K) notes.rows.items q

-- the place that a walk has reached: the pair of its chain and position, if the chain is loaded at all
abbrev pub IsWalk : {S : Type 0} → ScanTest → PackedGood → FaultModel → (S → Table → Type 0) → ℕ → CellKind → Scratch → Notes S → Option (ℕ × ℕ) → Type 0
IsWalk t g m sums b K s notes None = IsScratchIn g s
IsWalk t g m sums b K s notes (Some at) = IsWalkAt t g m sums b at.0 at.1 K s notes

-- the fault is one of a shift path, of this kind
abbrev pub IsOfKind : CellKind → Fault → Type 0
IsOfKind K (fault.Stem n v) = ⊥
IsOfKind K (fault.Branch p v) = ⊥
IsOfKind K (fault.Bridge a b kind) = ⊥
IsOfKind K (fault.Cell h c kind) = kind ≡ K

-- the suspects of a list of numbers, from one place on
abbrev pub IsFrom : List ℕ → ℕ → ℕ → Type 0
IsFrom group n i = (k : ℕ) × (n ≤ k) × (k < length group) × (slice_index group k ≡ i)
