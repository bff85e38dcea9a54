use Rattle.std.proofs.Common.{◌≡◌, ℕ, subst, arith}
use Rattle.fault_effects.specs.Walks.{IsWalkAt}
use Rattle.fault_effects.proofs.walk.descend.Goals as goal

pub returns : goal.returns
returns g c =
    let same : c.loop-at.at ≡ c.args.to = omega (arith, c.loop-at.invariant.above, c.loop-at-test.false) in
    let At : ℕ → Type 0 = λ n. IsWalkAt c.args.work.now.parts.now c.args.work.now.good.now (g.O.Observer.model c.args.work.now.observer.now) (g.O.ChainObserver.sums c.args.work.now.observer.now) c.args.work.now.block c.args.from.0 n c.args.kind c.loop-at.scratch c.loop-at.notes in
    subst At same c.loop-at.invariant.walk
