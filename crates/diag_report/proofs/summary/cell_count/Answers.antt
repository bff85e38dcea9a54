use Rattle.std.proofs.Common.{length, ap, arith, ◌≡◌, ◌∙◌}
use Rattle.scan_model.specs.ScanTest.{cells_of}
use Rattle.scan_model.proofs.PointCount.{cells_few}
use Rattle.fault_universe.proofs.CellPlaces.{chain_room}
use Rattle.diag_report.proofs.summary.cell_count.Goals as goal

pub overflow_add-count : goal.overflow_add-count
overflow_add-count c =
    let t = c.args.parts.now in
    let chains : c.as_slice-chains.result.now ≡ t.chains = c.as_slice-chains.ensures ∙ c.chains.ensures.value in
    omega (
      arith,
      c.len.ensures,
      c.loop-h.invariant,
      chain_room c.as_slice-chains.result.now c.loop-h.h c.index-chains-h.result c.loop-h-test.true,
      ap (λ cs. length (cells_of cs)) chains,
      cells_few t.netlist t.chains c.chains.ensures.fits.circuit c.chains.ensures.fits.chains,
    )
