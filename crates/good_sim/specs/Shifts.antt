-- Rows of values as they move through the chains.
use Rattle.std.specs.Prelude.{◌≡◌, ℕ, ◌<◌, List, [], map, length, Option, Some, None, slice_index_or}
use Rattle.std.specs.List.{enumerate_from}
use Rattle.scan_model.specs.declared.values.Tri.{Tri}
use Rattle.scan_model.specs.declared.fault.CellKind.{CellKind}
use Rattle.scan_model.specs.declared.fault.Fault.{Fault}
use Rattle.scan_model.specs.declared.fault.Fault.TheVariants as fault
use Rattle.scan_model.specs.ChainShift.{load_with, unload_with}
use Rattle.scan_model.specs.Faults.{loaded, unloaded}
use Rattle.good_sim.specs.declared.chains.Direction.{Direction}
use Rattle.good_sim.specs.declared.chains.Direction.TheVariants.{In, Out}

-- what becomes of a row that moves past the fault after the cell at position c
abbrev pub shifted_past : Direction → CellKind → ℕ → List Tri → List Tri
shifted_past In kind c row = load_with kind c row
shifted_past Out kind c row = unload_with kind c row

-- what becomes of the row of chain h
abbrev pub shifted : Direction → Option Fault → ℕ → List Tri → List Tri
shifted In f h row = loaded f h row
shifted Out f h row = unloaded f h row

-- what becomes of a row for each chain
abbrev pub shifted_rows : Direction → Option Fault → List (List Tri) → List (List Tri)
shifted_rows direction f rows = map (λ e. shifted direction f e.0 e.1) (enumerate_from 0 rows)

-- if the fault sits in chain h, it sits after one of its n cells
abbrev pub SitsWithin : Option Fault → ℕ → ℕ → Type 0
SitsWithin None h n = Unit {0}
SitsWithin (Some (fault.Stem m v)) h n = Unit {0}
SitsWithin (Some (fault.Branch p v)) h n = Unit {0}
SitsWithin (Some (fault.Bridge a b kind)) h n = Unit {0}
SitsWithin (Some (fault.Cell g c kind)) h n = h ≡ g → c < n

abbrev pub SitsWithinRows : Option Fault → List (List Tri) → Type 0
SitsWithinRows f rows = (h : ℕ) → h < length rows → SitsWithin f h (length (slice_index_or rows h []))
