use Rattle.std.proofs.Common.{arith}
use Rattle.std.specs.Prelude.{codes}
use Rattle.made_laws.specs.MadePairs.{pair_line}
use Rattle.made_designs.proofs.MorePieces.{one_more}
use Rattle.made_designs.proofs.pairs.made_pairs.Goals as goal

pub loop-block-preserved : goal.loop-block-preserved
loop-block-preserved c = one_more pair_line 0 c.loop-block.block c.loop-block.block (codes "net_a,net_b\n") _ _ (omega arith) c.loop-block.invariant c.in_ok-push_pair.ensures
