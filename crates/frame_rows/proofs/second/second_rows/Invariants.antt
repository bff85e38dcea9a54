use Rattle.std.proofs.Common.{◌≡◌, ℕ, ◌<◌, length, get_or}
use Rattle.lane_rows.specs.GoodRows.{no_block}
use Rattle.frame_rows.specs.SecondRows.{IsNextBlock}
use Rattle.frame_rows.proofs.second.second_rows.Given as goal

abbrev pub invariant-loop-block : goal.invariant-loop-block
invariant-loop-block l = record {
  len : length l.blocks.items ≡ l.block-index;
  each : (b : ℕ) → b < l.block-index → IsNextBlock l.parts b (get_or l.blocks.items b no_block);
}
