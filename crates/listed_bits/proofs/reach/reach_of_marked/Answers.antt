use Rattle.std.proofs.Common.{arith, take_all}
use Rattle.listed_bits.proofs.reach.reach_of_marked.Goals as goal

pub returns-clause-covered : goal.returns-clause-covered
returns-clause-covered c = λ w k. rw (take_all c.loop-i.i c.args.fails.now (omega (arith, c.loop-i-test.false, c.loop-i.auto.i-end))) at (c.loop-i.invariant.covered w k)
