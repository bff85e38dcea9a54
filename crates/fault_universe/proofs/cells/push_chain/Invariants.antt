use Rattle.std.proofs.Common.{◌≡◌, ◌++◌}
use Rattle.std.specs.Prelude.{flat_map}
use Rattle.std.specs.List.{range_with_len}
use Rattle.scan_model.specs.Universe.{cell_faults}
use Rattle.fault_universe.proofs.cells.push_chain.Given as goal

abbrev pub invariant-loop-pos : goal.invariant-loop-pos
invariant-loop-pos l = l.faults ≡ l.initial.faults ++ flat_map (cell_faults l.chain) (range_with_len 0 l.pos)
