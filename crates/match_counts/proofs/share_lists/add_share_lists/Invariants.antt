use Rattle.std.proofs.Common.{List, length, take, replicate, false}
use Rattle.std.specs.List.{flat_map}
use Rattle.fault_effects.specs.declared.share.Share.{Share}
use Rattle.match_counts.specs.declared.block_count.BlockCount.{BlockCount}
use Rattle.match_counts.specs.Totals.{AreAddedOnce}
use Rattle.match_counts.proofs.share_lists.add_share_lists.Given as goal

abbrev pub invariant-loop-shares : goal.invariant-loop-shares
invariant-loop-shares l = AreAddedOnce (flat_map (λ (s : List (Share BlockCount)). s) (take l.shares-index l.lists)) (replicate (length l.initial.added) false) l.initial.totals l.added l.totals
