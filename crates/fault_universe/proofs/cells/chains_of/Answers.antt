use Rattle.scan_model.proofs.PointCount.{cells_few}
use Rattle.fault_universe.proofs.cells.chains_of.Goals as goal

pub returns-clause-few_cells : goal.returns-clause-few_cells
returns-clause-few_cells c =
    let t = c.args.parts.now in
    rw (c.as_slice.ensures, c.chains.ensures.value) (cells_few t.netlist t.chains c.chains.ensures.fits.circuit c.chains.ensures.fits.chains)
