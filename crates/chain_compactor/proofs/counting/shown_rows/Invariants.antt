use Rattle.std.proofs.Common.{◌≡◌, ℕ, ◌<◌, None, length}
use Rattle.lane_rows.specs.Planes.{held}
use Rattle.lane_rows.specs.GoodRows.{pattern_of, AreBlockRows}
use Rattle.fail_logs.specs.FrameFacts.{point_among}
use Rattle.compact_points.specs.Compaction.{compact_value}
use Rattle.chain_compactor.specs.CompactCounts.{expected_at}
use Rattle.chain_compactor.proofs.counting.shown_rows.Given as goal

abbrev pub invariant-loop-point : goal.invariant-loop-point
invariant-loop-point l = record {
  len : length l.rows.items ≡ l.point-index;
  value : (b : ℕ) → AreBlockRows l.parts b l.block → (q j : ℕ) → q < l.point-index → j < 512 → pattern_of b j < length l.parts.patterns
      → held (expected_at l.rows.items q) j ≡ compact_value l.parts l.compact None (pattern_of b j) (point_among l.compact.points q);
}
