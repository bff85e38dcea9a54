-- Rows of values for the cells of chains.
use Rattle.std.specs.Prelude.{◌≡◌, ℕ, List, [], length, map, slice_index, slice_index_or}
use Rattle.scan_model.specs.declared.values.Tri.{Tri}
use Rattle.scan_model.specs.declared.parts.Chain.{Chain}
use Rattle.scan_model.specs.ScanTest.{ScanTest, chain_at, pattern_at}

-- there is a row for each chain, with a value for each cell
abbrev pub FitChains : List Chain → List (List Tri) → Type 0
FitChains chains rows = map length rows ≡ map (λ h. length h.cells) chains

-- the load of chain h in pattern w, before a fault
abbrev pub load : ScanTest → ℕ → ℕ → List Tri
load t w h = slice_index_or (pattern_at t w).loads h []

-- the net of the cell at position i of chain h
abbrev pub cell : ScanTest → ℕ → ℕ → ℕ
cell t h i = slice_index (chain_at t h).cells i
