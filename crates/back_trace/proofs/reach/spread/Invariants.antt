use Rattle.std.proofs.Common.{◌≡◌, ℕ, ◌<◌, ◌&&◌, ◌||◌, eqb, length}
use Rattle.std.specs.List.{list_any}
use Rattle.scan_model.proofs.FanSweeps.{first_reads}
use Rattle.lane_rows.specs.Lanes.{lane}
use Rattle.explained_lanes.specs.Traces.{lane_at}
use Rattle.back_trace.proofs.reach.spread.Given as goal

abbrev pub invariant-loop-i : goal.invariant-loop-i
invariant-loop-i l = record {
  len : length l.rows ≡ length l.initial.rows;
  lanes : (j n : ℕ) → j < 512 → lane_at l.rows j n ≡ (lane_at l.initial.rows j n || (lane l.row j && list_any (λ h. eqb n h) (first_reads l.circuit l.gate l.i)));
}
