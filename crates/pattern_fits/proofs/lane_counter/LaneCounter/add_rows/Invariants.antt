use Rattle.std.proofs.Common.{◌≡◌, ℕ, ◌+◌, ◌<◌, take}
use Rattle.pattern_fits.specs.LaneNumbers.{value, rows_with}
use Rattle.pattern_fits.proofs.lane_counter.LaneCounter.add_rows.Given as goal

abbrev pub invariant-loop-row : goal.invariant-loop-row
invariant-loop-row l = (j : ℕ) → j < 512 → value l.self j ≡ value l.initial.self j + rows_with (take l.row-index l.rows) j
