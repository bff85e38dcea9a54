use Rattle.scan_model.proofs.Cells.{cells_are_flops}
use Rattle.good_sim.proofs.observe.captured_rows.Goals as goal

pub captured_row-requires-clause-cells : goal.captured_row-requires-clause-cells
captured_row-requires-clause-cells c =
    let is = rw (c.as_slice-chains.ensures, c.chains.ensures.value) at c.chain-item.is in
    let lt = rw (c.as_slice-chains.ensures, c.chains.ensures.value) at c.loop-chain-test.true in
    rw (c.as_slice.ensures, c.circuit-circuit.ensures.value) (cells_are_flops c.args.parts.now c.loop-chain.chain-index c.chain-item.result c.chains.ensures.fits lt is)
