-- The rows that have the failing bits of a block of 512 patterns.
use Rattle.std.specs.Prelude.{◌≡◌, ℕ, ◌<◌, List, length, Bool, ◌&&◌, nat_lt}
use Rattle.scan_model.specs.declared.logs.LogFacts.{LogFacts}
use Rattle.scan_model.specs.ScanTest.{ScanTest, points_of}
use Rattle.scan_model.specs.Coverage.{bit_of}
use Rattle.scan_model.specs.Classes.{class, is_failing}
use Rattle.lane_rows.specs.GoodRows.{pattern_of}
use Rattle.explained_lanes.specs.Fails.{fails_at}

-- in a pattern of a test the bit at point k fails
abbrev pub fails_in : ScanTest → List LogFacts → ℕ → ℕ → Bool
fails_in t logs w k = nat_lt w (length t.patterns) && is_failing (class t logs (bit_of w k))

-- the rows have the failing bits of block b
pub record AreFailRows (t : ScanTest) (logs : List LogFacts) (b : ℕ) (rows : List (List ℕ)) : Type 0 where
  pub len : length rows ≡ length (points_of t)
  pub fails : (j k : ℕ) → j < 512 → k < length (points_of t) → fails_at rows j k ≡ fails_in t logs (pattern_of b j) k
