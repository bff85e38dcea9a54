use Rattle.std.proofs.Common.{◌≡◌, List, length}
use Rattle.scan_model.specs.declared.logs.LogFacts.{LogFacts}
use Rattle.log_join.specs.Joining.{StandsFor}
use Rattle.match_counts.specs.Sides.{classes_by}
use Rattle.match_counts.specs.Totals.{AreCounted}
use Rattle.two_frame.specs.TwoFrame.{frame_class}
use Rattle.two_frame.specs.FrameModel.{frame_model}
use Rattle.two_frame.proofs.counts.count_blocks.Given as goal

abbrev pub invariant-loop-block : goal.invariant-loop-block
invariant-loop-block l = record {
  blocks : l.totals.blocks ≡ l.block;
  len : length l.totals.totals ≡ length l.suspects;
  counted : (logs : List LogFacts) → StandsFor logs l.joined → AreCounted (frame_model l.parts) (classes_by (frame_class l.parts logs)) l.suspects l.totals;
}
