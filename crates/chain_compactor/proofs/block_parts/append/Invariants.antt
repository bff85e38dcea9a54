use Rattle.std.proofs.Common.{◌≡◌, ◌++◌, take}
use Rattle.chain_compactor.proofs.block_parts.append.Given as goal

abbrev pub invariant-loop-share : goal.invariant-loop-share
invariant-loop-share g l = l.shares ≡ l.initial.shares ++ take l.share-index l.piece
