use Rattle.std.proofs.Common.{◌≡◌, ◌++◌, take}
use Rattle.std.specs.Prelude.{flat_map}
use Rattle.std.specs.List.{enumerate_from}
use Rattle.scan_model.specs.Universe.{chain_faults}
use Rattle.fault_universe.proofs.cells.push_cells.Given as goal

abbrev pub invariant-loop-h : goal.invariant-loop-h
invariant-loop-h l = l.faults ≡ l.initial.faults ++ flat_map chain_faults (enumerate_from 0 (take l.h l.chains))
