use Rattle.std.proofs.Common.{◌≡◌, drop}
use Rattle.std.specs.Prelude.{flat_map, slice_get}
use Rattle.std.specs.List.{enumerate_from}
use Rattle.scan_model.specs.Universe.{cells, chain_faults}
use Rattle.fault_universe.proofs.cells.cell_at.Given as goal

abbrev pub invariant-loop-h : goal.invariant-loop-h
invariant-loop-h l = slice_get (cells l.fn.parts) l.place ≡ slice_get (flat_map chain_faults (enumerate_from l.h (drop l.h l.chains))) l.left
