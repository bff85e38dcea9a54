use Rattle.std.proofs.Common.{◌≡◌, ℕ, ◌+◌, ◌<◌, ◌==◌, false, length, map, take, slice_index_or}
use Rattle.std.specs.List.{list_any}
use Rattle.scan_model.specs.LogText.{each_once}
use Rattle.fail_logs.specs.Groups.{row_of}
use Rattle.fail_logs.proofs.groups.rows_cut.Given as goal

abbrev pub invariant-loop-group : goal.invariant-loop-group
invariant-loop-group l = record {
  room : length l.seen.items ≡ l.chains + 1;
  seen : (r : ℕ) → r < l.chains + 1 → slice_index_or l.seen.items r false ≡ list_any (λ h. row_of h == r) (take l.group-index l.groups);
  rows : l.rows.items ≡ map row_of (each_once (take l.group-index l.groups));
}
