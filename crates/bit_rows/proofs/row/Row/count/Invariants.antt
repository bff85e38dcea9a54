use Rattle.std.proofs.Common.{◌≡◌, ◌*◌, count_by}
use Rattle.std.specs.List.{range_with_len}
use Rattle.bit_rows.specs.Lanes.{lane}
use Rattle.bit_rows.proofs.row.Row.count.Given as goal

abbrev pub invariant-loop-k : goal.invariant-loop-k
invariant-loop-k l = l.count ≡ count_by (lane l.words) (range_with_len 0 (64 * l.k))
