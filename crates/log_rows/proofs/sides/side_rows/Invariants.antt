use Rattle.std.proofs.Common.{◌≡◌, ℕ, ◌+◌, ◌*◌, ◌<◌, List, [], length, get_or}
use Rattle.scan_model.specs.declared.logs.LogFacts.{LogFacts}
use Rattle.log_join.specs.Joining.{StandsFor}
use Rattle.bit_rows.specs.Lanes.{lane}
use Rattle.log_rows.specs.PointRows.{is_on_at}
use Rattle.log_rows.proofs.sides.side_rows.Given as goal

abbrev pub invariant-loop-point : goal.invariant-loop-point
invariant-loop-point l = record {
  len : length l.rows.items ≡ l.point;
  lanes : (logs : List LogFacts) → StandsFor logs l.joined → (k : ℕ) → k < l.point → (j : ℕ) → j < 512 → lane (get_or l.rows.items k []) j ≡ is_on_at logs l.expected l.patterns l.side (512 * l.block + j) k;
}
