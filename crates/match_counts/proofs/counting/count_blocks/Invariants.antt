use Rattle.std.proofs.Common.{◌≡◌, List, length}
use Rattle.scan_model.specs.declared.logs.LogFacts.{LogFacts}
use Rattle.scan_model.specs.Classes.{class}
use Rattle.log_join.specs.Joining.{StandsFor}
use Rattle.fault_effects.specs.FaultModel.{point_model}
use Rattle.match_counts.specs.Sides.{classes_by}
use Rattle.match_counts.specs.Totals.{AreCounted}
use Rattle.match_counts.proofs.counting.count_blocks.Given as goal

abbrev pub invariant-loop-block : goal.invariant-loop-block
invariant-loop-block g l = record {
  blocks : l.totals.blocks ≡ l.block;
  len : length l.totals.totals ≡ length l.suspects;
  counted : (logs : List LogFacts) → StandsFor logs l.joined → AreCounted (point_model l.parts) (classes_by (class l.parts logs)) l.suspects l.totals;
}
