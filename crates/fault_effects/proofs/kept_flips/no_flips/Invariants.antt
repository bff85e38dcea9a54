use Rattle.std.proofs.Common.{◌-◌, length}
use Rattle.std.specs.Prelude.{All}
use Rattle.fault_effects.specs.CachedFlips.{IsCachedFlip}
use Rattle.fault_effects.proofs.kept_flips.no_flips.Given as goal

abbrev pub invariant-loop-alloc : goal.invariant-loop-alloc
invariant-loop-alloc g l = All (IsCachedFlip (g.O.Observer.holds l.observer) (g.O.Observer.model l.observer) (g.O.Observer.block l.observer)) l.flips.items

abbrev pub decreases-loop-alloc : goal.decreases-loop-alloc
decreases-loop-alloc g l = l.count - length l.flips.items
