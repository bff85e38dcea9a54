use Rattle.std.proofs.Common.{◌≡◌, ℕ, ◌+◌, ◌<◌, [], length, slice_index_or}
use Rattle.fail_logs.specs.Frames.{rows_view}
use Rattle.fail_logs.specs.Groups.{row_points}
use Rattle.fail_logs.proofs.groups.point_rows.Given as goal

abbrev pub invariant-loop-k : goal.invariant-loop-k
invariant-loop-k l = record {
  count : length l.rows.items ≡ l.chains + 1;
  rows : (r : ℕ) → r < l.chains + 1 → slice_index_or (rows_view l.rows.items) r [] ≡ row_points l.points r l.k;
}
