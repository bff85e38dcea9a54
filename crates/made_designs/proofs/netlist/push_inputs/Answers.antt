use Rattle.std.proofs.Common.{arith}
use Rattle.made_laws.specs.MadeNetlist.{input_line}
use Rattle.made_designs.proofs.MorePieces.{one_more}
use Rattle.made_designs.proofs.netlist.push_inputs.Goals as goal

pub loop-input-preserved : goal.loop-input-preserved
loop-input-preserved c = one_more (input_line c.args.block) 0 c.loop-input.input c.loop-input.input _ _ _ (omega arith) c.loop-input.invariant c.in_ok-push_input.ensures
