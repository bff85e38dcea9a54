use Rattle.std.proofs.Common.{◌≡◌, ℕ, ◌<◌, ◌≤◌, length}
use Rattle.explained_lanes.specs.Traces.{lane_at}
use Rattle.explained_lanes.proofs.SweptBack.{IsSweptBack}
use Rattle.back_trace.proofs.reach.spread_back.Given as goal

abbrev pub invariant-loop-k : goal.invariant-loop-k
invariant-loop-k l = record {
  within : l.k ≤ length l.order;
  len : length l.rows ≡ length l.initial.rows;
  swept : (j : ℕ) → j < 512 → IsSweptBack l.circuit l.order (lane_at l.initial.rows j) l.k (lane_at l.rows j);
}

abbrev pub decreases-loop-k : goal.decreases-loop-k
decreases-loop-k l = l.k
