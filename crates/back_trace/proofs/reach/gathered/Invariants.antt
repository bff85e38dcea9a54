use Rattle.std.proofs.Common.{◌≡◌, ℕ, ◌<◌, ◌&&◌, length, None, get_or}
use Rattle.std.specs.List.{list_any, range_with_len}
use Rattle.lane_rows.specs.Lanes.{lane}
use Rattle.back_trace.specs.Keys.{is_key}
use Rattle.explained_lanes.specs.Traces.{lane_at}
use Rattle.back_trace.proofs.reach.gathered.Given as goal

abbrev pub invariant-loop-k : goal.invariant-loop-k
invariant-loop-k l = record {
  len : length l.rows ≡ l.nets;
  rows : (j n : ℕ) → j < 512 → n < l.nets → lane_at l.rows j n ≡ (lane l.lanes j && list_any (λ k. lane_at l.points j k && is_key (get_or l.keys k None) n) (range_with_len 0 l.k));
}
