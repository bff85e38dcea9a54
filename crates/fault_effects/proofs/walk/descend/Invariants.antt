use Rattle.std.proofs.Common.{◌≤◌}
use Rattle.fault_effects.specs.Walks.{IsWalkAt}
use Rattle.fault_effects.proofs.walk.descend.Given as goal

abbrev pub invariant-loop-at : goal.invariant-loop-at
invariant-loop-at g l = record {
  walk : IsWalkAt l.work.parts.now l.work.good.now (g.O.Observer.model l.work.observer.now) (g.O.ChainObserver.sums l.work.observer.now) l.work.block l.from.0 l.at l.kind l.scratch l.notes;
  above : l.to ≤ l.at;
}

abbrev pub decreases-loop-at : goal.decreases-loop-at
decreases-loop-at g l = l.at
