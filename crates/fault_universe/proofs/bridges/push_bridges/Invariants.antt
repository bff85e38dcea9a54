use Rattle.std.proofs.Common.{◌≡◌, ◌++◌, take}
use Rattle.std.specs.Prelude.{flat_map}
use Rattle.scan_model.specs.Universe.{bridge_faults}
use Rattle.fault_universe.proofs.bridges.push_bridges.Given as goal

abbrev pub invariant-loop-pair : goal.invariant-loop-pair
invariant-loop-pair l = l.faults ≡ l.initial.faults ++ flat_map (bridge_faults l.profile) (take l.pair-index l.pair-items)
