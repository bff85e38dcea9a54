use Rattle.std.proofs.Common.{length, ap, arith}
use Rattle.std.proofs.Math.Seq.{take-length}
use Rattle.scan_model.specs.ScanTest.{cells_of}
use Rattle.fault_universe.proofs.CellPlaces.{length-cells_from}
use Rattle.fault_universe.proofs.cells.cell_count.Goals as goal

pub returns-clause-count : goal.returns-clause-count
returns-clause-count c = rw (← c.chains_of-chains.ensures.chains) (omega (arith, length-cells_from 0 c.chains_of-chains.result.now, c.cells_before.ensures, ap (λ cs. length (cells_of cs)) (take-length c.chains_of-chains.result.now)))

pub returns-clause-few : goal.returns-clause-few
returns-clause-few c = rw (← c.chains_of-chains.ensures.chains) (omega (arith, length-cells_from 0 c.chains_of-chains.result.now, c.chains_of-chains.ensures.few_cells))
