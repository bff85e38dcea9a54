use Rattle.std.proofs.Common.{◌≡◌, ◌++◌, take}
use Rattle.slat_view.proofs.whole_block.append.Given as goal

abbrev pub invariant-loop-share : goal.invariant-loop-share
invariant-loop-share l = l.shares ≡ l.initial.shares ++ take l.share-index l.piece
