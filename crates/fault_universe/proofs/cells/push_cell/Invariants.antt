use Rattle.std.proofs.Common.{◌≡◌, ◌++◌, take}
use Rattle.scan_model.specs.Universe.{cell_faults}
use Rattle.fault_universe.proofs.cells.push_cell.Given as goal

abbrev pub invariant-loop-number : goal.invariant-loop-number
invariant-loop-number l = l.faults ≡ l.initial.faults ++ take l.number (cell_faults l.chain l.pos)
