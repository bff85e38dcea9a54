use Rattle.std.proofs.Common.{refl}
use Rattle.made_laws.specs.MadeNetlist.{output_line}
use Rattle.made_designs.proofs.MorePieces.{one_more}
use Rattle.made_designs.proofs.netlist.push_outputs.Goals as goal

pub loop-output-preserved : goal.loop-output-preserved
loop-output-preserved c = one_more (output_line c.args.block) 90 c.loop-output.output _ _ _ _ refl c.loop-output.invariant c.in_ok-push_output.ensures
