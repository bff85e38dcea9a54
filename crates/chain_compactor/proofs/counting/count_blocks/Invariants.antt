use Rattle.std.proofs.Common.{◌≡◌, List, length}
use Rattle.scan_model.specs.declared.logs.LogFacts.{LogFacts}
use Rattle.log_join.specs.Joining.{StandsFor}
use Rattle.match_counts.specs.Sides.{classes_by}
use Rattle.match_counts.specs.Totals.{AreCounted}
use Rattle.chain_compactor.specs.CompactMatches.{compact_class}
use Rattle.chain_compactor.specs.CompactModel.{compact_model}
use Rattle.chain_compactor.proofs.counting.count_blocks.Given as goal

abbrev pub invariant-loop-block : goal.invariant-loop-block
invariant-loop-block l = record {
  blocks : l.totals.blocks ≡ l.block;
  len : length l.totals.totals ≡ length l.suspects;
  counted : (logs : List LogFacts) → StandsFor logs l.joined → AreCounted (compact_model l.parts l.compact) (classes_by (compact_class l.parts l.compact logs)) l.suspects l.totals;
}
