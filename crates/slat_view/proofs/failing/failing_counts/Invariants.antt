use Rattle.std.proofs.Common.{◌≡◌, ℕ, ◌<◌}
use Rattle.std.specs.Prelude.{sum_by}
use Rattle.std.specs.List.{range_with_len}
use Rattle.lane_rows.specs.Lanes.{lane}
use Rattle.match_counts.specs.Flips.{point_row_at}
use Rattle.pattern_fits.specs.LaneNumbers.{value, one}
use Rattle.slat_view.proofs.failing.failing_counts.Given as goal

abbrev pub invariant-loop-k : goal.invariant-loop-k
invariant-loop-k l = (j : ℕ) → j < 512 → value l.counter j ≡ sum_by (λ k. one (lane (point_row_at l.rows k).failing j)) (range_with_len 0 l.k)
