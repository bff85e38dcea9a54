use Rattle.std.proofs.Common.{◌≡◌, ℕ, ◌<◌, ◌≤◌, length}
use Rattle.lane_rows.specs.Lanes.{lane}
use Rattle.explained_lanes.specs.Fails.{fails_at}
use Rattle.slat_view.specs.Ends.{any_from, is_last}
use Rattle.slat_view.proofs.ends.last_failing.Given as goal

abbrev pub invariant-loop-k : goal.invariant-loop-k
invariant-loop-k l = record {
  start : l.k ≤ length l.rows;
  len : length l.lasts.items ≡ length l.rows;
  seen : (j : ℕ) → j < 512 → lane l.seen j ≡ any_from l.rows j l.k;
  last : (j k : ℕ) → j < 512 → l.k ≤ k → k < length l.rows → fails_at l.lasts.items j k ≡ is_last l.rows j k;
}

abbrev pub decreases-loop-k : goal.decreases-loop-k
decreases-loop-k l = l.k
