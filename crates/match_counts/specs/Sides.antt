-- How many bits of a side a fault predicts to fail in a block of 512 patterns, for any model of faults and any classes of bits.
use Rattle.std.specs.Prelude.{◌≡◌, ℕ, ◌<◌, List, length, sum_by, Bool, ◌&&◌, nat_lt}
use Rattle.std.specs.List.{range_with_len}
use Rattle.scan_model.specs.declared.fault.Fault.{Fault}
use Rattle.scan_model.specs.declared.logs.Bit.{Bit}
use Rattle.scan_model.specs.declared.logs.BitClass.{BitClass}
use Rattle.scan_model.specs.Coverage.{bit_of}
use Rattle.lane_rows.specs.Lanes.{lane, count_lanes}
use Rattle.lane_rows.specs.GoodRows.{pattern_of}
use Rattle.log_rows.specs.declared.point_row.PointRow.{PointRow}
use Rattle.log_rows.specs.declared.side.Side.{Side}
use Rattle.log_rows.specs.declared.side.Side.TheVariants.{Failing, Passing}
use Rattle.fault_effects.specs.FaultModel.{FaultModel}
use Rattle.log_rows.specs.PointRows.{is_on}
use Rattle.match_counts.specs.declared.block_count.BlockCount.{BlockCount}
use Rattle.match_counts.specs.Flips.{row_on, point_row_at}

-- w q: the bit of place q in pattern w is of the side
abbrev pub Classes : Type 0
Classes = Side → ℕ → ℕ → Bool

-- by the classes of bits, of which each place has one in a pattern
abbrev pub classes_by : (Bit → BitClass) → Classes
classes_by classes side w q = is_on side (classes (bit_of w q))

-- the model has so many patterns, and its faults predict these fails at bits
pub record IsOfBits (m : FaultModel) (patterns : ℕ) (predicts : Fault → Bit → Bool) : Type 0 where
  pub exists : (w : ℕ) → m.exists w ≡ nat_lt w patterns
  pub fails : (f : Fault) (w q : ℕ) → m.fails f w q ≡ predicts f (bit_of w q)

-- how many bits of block b at place q are counted
abbrev pub lanes_at : FaultModel → (ℕ → ℕ → Bool) → ℕ → ℕ → ℕ
lanes_at m is_counted b q = count_lanes (λ j. m.exists (pattern_of b j) && is_counted (pattern_of b j) q)

-- how many bits of block b are counted
abbrev pub hits_in : FaultModel → (ℕ → ℕ → Bool) → ℕ → ℕ
hits_in m is_counted b = sum_by (lanes_at m is_counted b) (range_with_len 0 m.places)

-- how many bits of the side in block b the fault predicts to fail
abbrev pub predicted_in : FaultModel → Classes → Side → Fault → ℕ → ℕ
predicted_in m on side f b = hits_in m (λ w q. on side w q && m.fails f w q) b

-- what the fault explains and mispredicts in block b
abbrev pub count_in : FaultModel → Classes → ℕ → Fault → BlockCount
count_in m on b f = record { tfsf = predicted_in m on Failing f b; tpsf = predicted_in m on Passing f b }

-- a row for each place of block b, with the lanes of each side whose patterns are there
pub record AreSideRows (m : FaultModel) (on : Classes) (b : ℕ) (rows : List PointRow) : Type 0 where
  pub len : length rows ≡ m.places
  pub each : (side : Side) (q j : ℕ) → q < m.places → j < 512 → lane (row_on side (point_row_at rows q)) j ≡ (m.exists (pattern_of b j) && on side (pattern_of b j) q)
