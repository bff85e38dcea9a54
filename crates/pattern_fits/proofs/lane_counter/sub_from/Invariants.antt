use Rattle.std.proofs.Common.{◌≡◌, ◌+◌, ◌*◌, ◌<◌, ℕ, length}
use Rattle.bit_rows.specs.Lanes.{lane}
use Rattle.pattern_fits.specs.LaneNumbers.{value, weight, one}
use Rattle.pattern_fits.proofs.lane_counter.sub_from.Given as goal

abbrev pub invariant-loop-i : goal.invariant-loop-i
invariant-loop-i l = record {
  len : length l.slices ≡ length l.fn.slices;
  sum : (j : ℕ) → j < 512 → value l.slices j + one (lane l.fn.lanes j) ≡ value l.fn.slices j + weight l.i * one (lane l.borrow j);
}
