use Rattle.std.proofs.Common.{◌≡◌, ℕ, ◌<◌}
use Rattle.std.specs.List.{list_any, range_with_len}
use Rattle.lane_rows.specs.Lanes.{lane}
use Rattle.match_counts.specs.Flips.{point_row_at}
use Rattle.slat_view.proofs.failing.failing_lanes.Given as goal

abbrev pub invariant-loop-k : goal.invariant-loop-k
invariant-loop-k l = (j : ℕ) → j < 512 → lane l.lanes j ≡ list_any (λ k. lane (point_row_at l.rows k).failing j) (range_with_len 0 l.k)
