use Rattle.std.proofs.Common.{◌≡◌, ℕ, [], length, slice_index_or}
use Rattle.fail_logs.specs.Frames.{rows_view}
use Rattle.fail_logs.proofs.groups.empty_rows.Given as goal

abbrev pub invariant-loop : goal.invariant-loop
invariant-loop l = record {
  count : length l.rows.items ≡ l.counter;
  blank : (r : ℕ) → slice_index_or (rows_view l.rows.items) r [] ≡ [];
}
