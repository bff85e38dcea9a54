use Rattle.std.specs.Prelude.{◌<◌, length}
use Rattle.fault_effects.specs.Regions.{IsRegion}
use Rattle.fault_effects.proofs.region.climb.Given as goal

abbrev pub invariant-loop : goal.invariant-loop
invariant-loop g l = record {
  at : l.at < length l.work.parts.now.netlist.nets;
  region : IsRegion (g.O.Observer.holds l.work.observer.now) (g.O.Observer.model l.work.observer.now) (g.O.Observer.block l.work.observer.now) (length l.work.parts.now.netlist.nets) l.region;
}
