use Rattle.std.proofs.Common.{refl, arith}
use Rattle.made_laws.specs.MadeNetlist.{block_inputs}
use Rattle.made_designs.proofs.MorePieces.{line_added}
use Rattle.made_designs.proofs.netlist.push_all_inputs.Goals as goal

pub loop-block-preserved : goal.loop-block-preserved
loop-block-preserved c = line_added block_inputs c.args.text.now _ _ _ 0 c.loop-block.block c.loop-block.block (omega arith) c.loop-block.invariant c.in_ok-push_inputs.ensures refl
