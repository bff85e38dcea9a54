-- The groups of points that a tester can cut on their own, by rows: that of the outputs, then one for each chain.
use Rattle.std.specs.Prelude.{ℕ, ◌+◌, ◌==◌, ◌<◌, List, filter, slice_index_or}
use Rattle.std.specs.List.{range_with_len}
use Rattle.scan_model.specs.declared.parts.Point.{Point}
use Rattle.scan_model.specs.declared.parts.Point.TheVariants.{Output, Cell}
use Rattle.scan_model.specs.declared.logs.CutGroup.{CutGroup}
use Rattle.scan_model.specs.declared.logs.CutGroup.TheVariants.{Outputs, Chain}

abbrev pub row_of : CutGroup → ℕ
row_of Outputs = 0
row_of (Chain h) = h + 1

abbrev pub row_at : Point → ℕ
row_at (Output k) = 0
row_at (Cell h i) = h + 1

-- those of the first n points that stand in the row
abbrev pub row_points : List Point → ℕ → ℕ → List ℕ
row_points points r n = filter (λ k. row_at (slice_index_or points k (Output 0)) == r) (range_with_len 0 n)

-- one of so many chains, or the outputs
abbrev pub IsGroupIn : ℕ → CutGroup → Type 0
IsGroupIn chains Outputs = Unit {0}
IsGroupIn chains (Chain h) = h < chains
