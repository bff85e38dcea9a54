use Rattle.std.proofs.Common.{◌≡◌, ℕ, ◌-◌, ◌<◌, ◌≤◌, true, length, get_or}
use Rattle.scan_model.specs.ScanTest.{point_at}
use Rattle.lane_rows.specs.Lanes.{lane}
use Rattle.log_rows.specs.PointRows.{no_point_row}
use Rattle.chain_compactor.specs.ObservationPoints.{seeing}
use Rattle.chain_compactor.proofs.tracing.failing_downstream.Given as goal

abbrev pub invariant-loop-place : goal.invariant-loop-place
invariant-loop-place l = record {
  nth_le : l.nth ≤ length (seeing l.parts l.compact (point_at l.parts l.point));
  taken : (i : ℕ) → i < l.nth → (j : ℕ) → j < 512 → lane (get_or l.rows (get_or (seeing l.parts l.compact (point_at l.parts l.point)) i 0) no_point_row).failing j ≡ true → lane l.row j ≡ true;
}

abbrev pub decreases-loop-place : goal.decreases-loop-place
decreases-loop-place l = length (seeing l.parts l.compact (point_at l.parts l.point)) - l.nth
