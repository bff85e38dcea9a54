use Rattle.std.proofs.Common.{◌≡◌, ℕ, ◌+◌, ◌*◌, ◌<◌, List, length}
use Rattle.scan_model.specs.declared.logs.LogFacts.{LogFacts}
use Rattle.log_join.specs.Joining.{StandsFor}
use Rattle.bit_rows.specs.Lanes.{lane}
use Rattle.log_rows.specs.PointRows.{is_on_at}
use Rattle.log_rows.proofs.sides.side_row.Given as goal

abbrev pub invariant-loop-at : goal.invariant-loop-at
invariant-loop-at l = record {
  len : length l.words ≡ 8;
  lanes : (logs : List LogFacts) → StandsFor logs l.joined → (j : ℕ) → j < 64 * l.at → lane l.words j ≡ is_on_at logs l.expected l.patterns l.side (512 * l.block + j) l.point;
}
