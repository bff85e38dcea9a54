-- The Failing and the Passing lanes of the points in a block of 512 patterns.
use Rattle.std.specs.Prelude.{◌≡◌, ℕ, ◌<◌, List, [], length, Bool, ◌&&◌, nat_lt, slice_index_or}
use Rattle.scan_model.specs.declared.values.Tri.{Tri}
use Rattle.scan_model.specs.declared.logs.Bit.{Bit}
use Rattle.scan_model.specs.declared.logs.BitClass.{BitClass}
use Rattle.scan_model.specs.declared.logs.LogFacts.{LogFacts}
use Rattle.scan_model.specs.ChainShift.{value_at}
use Rattle.scan_model.specs.ScanTest.{ScanTest, points_of}
use Rattle.scan_model.specs.Coverage.{bit_of}
use Rattle.scan_model.specs.Classes.{class, class_of, is_failing, is_passing}
use Rattle.bit_rows.specs.Lanes.{lane, pattern_of}
use Rattle.log_rows.specs.declared.point_row.PointRow.{PointRow}
use Rattle.log_rows.specs.declared.side.Side.{Side}
use Rattle.log_rows.specs.declared.side.Side.TheVariants.{Failing, Passing}

abbrev pub is_on : Side → BitClass → Bool
is_on Failing class = is_failing class
is_on Passing class = is_passing class

-- the bit's class over the logs is that of the side
abbrev pub counts_on : ScanTest → List LogFacts → Side → Bit → Bool
counts_on t logs side x = is_on side (class t logs x)

-- the pattern is there, and the class of its bit by rows of expected values is that of the side
abbrev pub is_on_at : List LogFacts → List (List Tri) → ℕ → Side → ℕ → ℕ → Bool
is_on_at logs rows patterns side w k = nat_lt w patterns && is_on side (class_of logs (value_at (slice_index_or rows w []) k) (bit_of w k))

-- the lanes of block b whose patterns are there and whose bits at point k are counted
abbrev pub AreLanesAt : ScanTest → (Bit → Bool) → ℕ → ℕ → List ℕ → Type 0
AreLanesAt t is_counted b k row = (j : ℕ) → j < 512 → lane row j ≡ (nat_lt (pattern_of b j) (length t.patterns) && is_counted (bit_of (pattern_of b j) k))

pub record IsPointRow (t : ScanTest) (logs : List LogFacts) (b k : ℕ) (row : PointRow) : Type 0 where
  pub failing : AreLanesAt t (counts_on t logs Failing) b k row.failing
  pub passing : AreLanesAt t (counts_on t logs Passing) b k row.passing

-- what stands past the end of the rows
abbrev pub no_point_row : PointRow
no_point_row = record { failing = []; passing = [] }

-- a row for each point of block b
pub record ArePointRows (t : ScanTest) (logs : List LogFacts) (b : ℕ) (rows : List PointRow) : Type 0 where
  pub len : length rows ≡ length (points_of t)
  pub each : (k : ℕ) → k < length rows → IsPointRow t logs b k (slice_index_or rows k no_point_row)
