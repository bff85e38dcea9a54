use Rattle.std.proofs.Common.{◌≡◌, ℕ, ◌<◌, length, map, take, None}
use Rattle.scan_model.specs.Values.{xor_of}
use Rattle.scan_model.specs.Response.{observed}
use Rattle.lane_rows.specs.Planes.{held}
use Rattle.lane_rows.specs.GoodRows.{pattern_of, AreBlockRows}
use Rattle.compact_points.specs.Compaction.{cells_shown}
use Rattle.compact_points.proofs.expected.channel_in_block.Given as goal

abbrev pub invariant-loop-chain : goal.invariant-loop-chain
invariant-loop-chain l = (b j : ℕ) → AreBlockRows l.parts b l.block → j < 512 → pattern_of b j < length l.parts.patterns
    → held l.row j ≡ xor_of (map (observed l.parts None (pattern_of b j)) (cells_shown l.parts l.cycle (take l.chain-index l.chains)))
