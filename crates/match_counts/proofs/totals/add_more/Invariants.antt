use Rattle.std.proofs.Common.{take}
use Rattle.match_counts.specs.Totals.{AreAddedOnce}
use Rattle.match_counts.proofs.totals.add_more.Given as goal

abbrev pub invariant-loop-share : goal.invariant-loop-share
invariant-loop-share l = AreAddedOnce (take l.share-index l.shares) l.initial.added l.initial.totals l.added l.totals
