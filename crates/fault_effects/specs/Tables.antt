-- Rows of lanes by place, as tables of bits.
use Rattle.std.specs.Prelude.{ℕ, List, [], cond, ◌==◌, slice_index_or}
use Rattle.lane_rows.specs.Lanes.{lane}
use Rattle.fault_effects.specs.FaultModel.{Table}

abbrev pub row_at : List (List ℕ) → ℕ → List ℕ
row_at rows q = slice_index_or rows q []

-- what the rows have at place q in lane j
abbrev pub table_of : List (List ℕ) → Table
table_of rows q j = lane (row_at rows q) j

-- the table with another row at one place
abbrev pub put_row : Table → ℕ → List ℕ → Table
put_row c place row q j = cond (q == place) (lane row j) (c q j)
