use Rattle.std.specs.Prelude.{length}
use Rattle.fault_effects.specs.Regions.{IsRegion}
use Rattle.fault_effects.specs.CachedFlips.{AreKeptFlips}
use Rattle.fault_effects.proofs.region.descend.Given as goal

abbrev pub invariant-loop : goal.invariant-loop
invariant-loop g l = record {
  scratch : g.O.Observer.clean l.work.observer.now l.scratch;
  kept : AreKeptFlips (g.O.Observer.holds l.work.observer.now) (g.O.Observer.model l.work.observer.now) (g.O.Observer.block l.work.observer.now) l.kept;
  region : IsRegion (g.O.Observer.holds l.work.observer.now) (g.O.Observer.model l.work.observer.now) (g.O.Observer.block l.work.observer.now) (length l.work.parts.now.netlist.nets) l.region;
}
