use Rattle.std.proofs.Common.{refl, arith}
use Rattle.made_laws.specs.MadeNetlist.{block_outputs}
use Rattle.made_designs.proofs.MorePieces.{line_added}
use Rattle.made_designs.proofs.netlist.push_all_outputs.Goals as goal

pub loop-block-preserved : goal.loop-block-preserved
loop-block-preserved c = line_added block_outputs c.args.text.now _ _ _ 0 c.loop-block.block c.loop-block.block (omega arith) c.loop-block.invariant c.in_ok-push_outputs.ensures refl
