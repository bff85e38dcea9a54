use Rattle.std.proofs.Common.{◌≡◌, ◌++◌, take}
use Rattle.fault_universe.proofs.bridges.push_pair.Given as goal

abbrev pub invariant-loop-fault : goal.invariant-loop-fault
invariant-loop-fault l = l.faults ≡ l.initial.faults ++ take l.fault-index l.fault-items
