use Rattle.std.proofs.Common.{◌≡◌, ◌++◌, take}
use Rattle.std.specs.Prelude.{flat_map}
use Rattle.scan_model.specs.Universe.{branch_faults}
use Rattle.fault_universe.proofs.branches.push_branches.Given as goal

abbrev pub invariant-loop-pin : goal.invariant-loop-pin
invariant-loop-pin l = l.faults ≡ l.initial.faults ++ flat_map branch_faults (take l.pin-index l.pin-items)
