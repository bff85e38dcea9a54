use Rattle.std.proofs.Common.{arith}
use Rattle.made_laws.specs.MadeNetlist.{cell_line}
use Rattle.made_designs.proofs.MorePieces.{one_more}
use Rattle.made_designs.proofs.netlist.push_cells.Goals as goal

pub loop-cell-preserved : goal.loop-cell-preserved
loop-cell-preserved c = one_more (cell_line c.args.block) 0 c.loop-cell.cell c.loop-cell.cell _ _ _ (omega arith) c.loop-cell.invariant c.in_ok-push_cell.ensures
