use Rattle.std.proofs.Common.{◌≡◌, ◌*◌, ◌≤◌, take}
use Rattle.std.specs.Prelude.{sum_by}
use Rattle.lane_rows.specs.Lanes.{lane, count_lanes}
use Rattle.match_counts.proofs.lane_tally.failing_count.Given as goal

abbrev pub invariant-loop-row : goal.invariant-loop-row
invariant-loop-row l = record {
  sum : l.sum ≡ sum_by (λ r. count_lanes (lane r.failing)) (take l.row-index l.rows);
  few : l.sum ≤ 512 * l.row-index;
}
