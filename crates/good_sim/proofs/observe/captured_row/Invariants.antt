use Rattle.std.proofs.Common.{◌≡◌, take}
use Rattle.scan_model.specs.ChainShift.{value_at}
use Rattle.single_faults.specs.Effect.{forces}
use Rattle.good_sim.specs.PointValues.{captured_over}
use Rattle.good_sim.proofs.observe.captured_row.Given as goal

abbrev pub invariant-loop-cell : goal.invariant-loop-cell
invariant-loop-cell l = l.row.items ≡ captured_over l.circuit (forces l.effect) (value_at l.values) (take l.cell-index l.cells)
