use Rattle.std.specs.Prelude.{◌≡◌, length}
use Rattle.fault_effects.specs.Regions.{IsRooted}
use Rattle.fault_effects.proofs.rooted.root_of.Given as goal

abbrev pub invariant-loop : goal.invariant-loop
invariant-loop g l = record {
  rooted : IsRooted (g.O.Observer.model l.work.observer.now) (g.O.Observer.block l.work.observer.now) (length l.work.parts.now.netlist.nets) l.at;
  net : l.at.net ≡ l.net;
}
