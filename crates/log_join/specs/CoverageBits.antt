-- The bits that one log covers, by its tested patterns and an end for each point.
use Rattle.std.specs.Prelude.{ℕ, ◌≡◌, ◌+◌, ◌/◌, Bool, ◌&&◌, List, length, nat_lt, slice_index_or}
use Rattle.scan_model.specs.BitTable.{table_bit}

-- words of tested patterns, 64 each, and for each point the pattern before which it is covered
pub record CoverageBits : Type 0 where
  pub tested : List ℕ
  pub ends : List ℕ

-- for so many patterns and points
abbrev pub IsCoverageOf : ℕ → ℕ → CoverageBits → Type 0
IsCoverageOf patterns points covered = (length covered.tested ≡ (patterns + 63) / 64) × (length covered.ends ≡ points)

-- the pattern is tested, and stands before the end of the point
abbrev pub is_covered : CoverageBits → ℕ → ℕ → Bool
is_covered covered w k = table_bit covered.tested 1 w 0 && nat_lt w (slice_index_or covered.ends k 0)
