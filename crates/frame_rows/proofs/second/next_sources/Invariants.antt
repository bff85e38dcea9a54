use Rattle.std.proofs.Common.{◌≡◌, ℕ, ◌<◌, length}
use Rattle.lane_rows.specs.Sources.{lane_values}
use Rattle.frame_rows.specs.SecondRows.{next_value}
use Rattle.frame_rows.proofs.second.next_sources.Given as goal

abbrev pub invariant-loop-net : goal.invariant-loop-net
invariant-loop-net l = record {
  len : length l.rows.items ≡ l.net;
  value : (j n : ℕ) → j < 512 → n < l.net → lane_values l.rows.items j n ≡ next_value l.circuit (lane_values l.first j) n;
}
