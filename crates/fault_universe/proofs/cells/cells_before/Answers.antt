use Rattle.std.proofs.Common.{arith}
use Rattle.fault_universe.proofs.CellPlaces.{chain_room}
use Rattle.fault_universe.proofs.cells.cells_before.Goals as goal

pub overflow_cast-before : goal.overflow_cast-before
overflow_cast-before c = omega (arith, c.len.ensures, chain_room c.args.chains.now c.loop-h.h c.index-chains-h.result (omega (arith, c.loop-h-test.true, c.requires.count)), c.requires.few)

pub overflow_add-before : goal.overflow_add-before
overflow_add-before c = omega (arith, c.len.ensures, c.loop-h.invariant, chain_room c.args.chains.now c.loop-h.h c.index-chains-h.result (omega (arith, c.loop-h-test.true, c.requires.count)), c.requires.few)
