use Rattle.std.proofs.Common.{◌≡◌, ℕ, ◌<◌, length}
use Rattle.lane_rows.specs.Lanes.{lane}
use Rattle.explained_lanes.specs.Fails.{fails_at}
use Rattle.slat_view.specs.Ends.{any_before, is_first}
use Rattle.slat_view.proofs.ends.first_failing.Given as goal

abbrev pub invariant-loop-k : goal.invariant-loop-k
invariant-loop-k l = record {
  len : length l.firsts.items ≡ l.k;
  seen : (j : ℕ) → j < 512 → lane l.seen j ≡ any_before l.rows j l.k;
  first : (j k : ℕ) → j < 512 → k < l.k → fails_at l.firsts.items j k ≡ is_first l.rows j k;
}
