use Rattle.std.proofs.Common.{◌≡◌, ℕ, ◌+◌, ◌&&◌, Bool, take}
use Rattle.std.specs.Prelude.{sum_by}
use Rattle.lane_rows.specs.Lanes.{lane, count_lanes}
use Rattle.log_rows.specs.declared.side.Side.{Side}
use Rattle.match_counts.specs.Flips.{tallied, row_on, point_row_at, list_on}
use Rattle.match_counts.proofs.flip_rows.FlipRows.add_points.Given as goal

abbrev pub invariant-loop-point : goal.invariant-loop-point
invariant-loop-point l = (side : Side) (m : ℕ → Bool) → tallied (list_on side l.self) m
    ≡ tallied (list_on side l.initial.self) m + sum_by (λ k. count_lanes (λ j. (lane l.caught j && lane (row_on side (point_row_at l.rows k)) j) && m j)) (take l.point-index l.points)
