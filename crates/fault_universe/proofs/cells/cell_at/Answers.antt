use Rattle.std.proofs.Common.{sym, ◌∙◌, arith}
use Rattle.fault_universe.proofs.CellPlaces.{chain_room, in_this_chain, in_later_chain}
use Rattle.fault_universe.proofs.cells.cell_at.Goals as goal

pub overflow_cast-len : goal.overflow_cast-len
overflow_cast-len c = omega (arith, c.len.ensures, chain_room c.chains_of-chains.result.now c.loop-h.h c.index-chains-h.result c.loop-h-test.true, c.chains_of-chains.ensures.few_cells)

pub overflow_mul-len : goal.overflow_mul-len
overflow_mul-len c = omega (arith, c.len.ensures, chain_room c.chains_of-chains.result.now c.loop-h.h c.index-chains-h.result c.loop-h-test.true, c.chains_of-chains.ensures.few_cells)

pub returns-then-left-len : goal.returns-then-left-len
returns-then-left-len c = sym (c.loop-h.invariant ∙ in_this_chain c.chains_of-chains.result.now c.loop-h.h c.loop-h.left c.index-chains-h.result c.loop-h-test.true (omega (arith, c.if-left-len.true, c.len.ensures)) ∙ c.cell_of.ensures)

pub loop-h-preserved : goal.loop-h-preserved
loop-h-preserved c = rw c.len.ensures (c.loop-h.invariant ∙ in_later_chain c.chains_of-chains.result.now c.loop-h.h c.loop-h.left c.index-chains-h.result c.loop-h-test.true (omega (arith, c.if-left-len.false, c.len.ensures)))
