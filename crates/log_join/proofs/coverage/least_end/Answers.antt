use Rattle.std.proofs.Common.{◌≤◌, arith, take_all}
use Rattle.std.proofs.lemmas.List.Elements.{All-more}
use Rattle.log_join.proofs.coverage.least_end.Goals as goal

pub loop-i-preserved : goal.loop-i-preserved
loop-i-preserved c = All-more (λ end. c.min-least.result ≤ end) c.args.ends.now c.loop-i.i 0 c.loop-i-test.true
    (λ j d lt. omega (arith, c.loop-i.invariant j d lt, c.min-least.ensures)) (omega (arith, c.min-least.ensures))

pub returns : goal.returns
returns c = rw (take_all c.loop-i.i c.args.ends.now (omega (arith, c.loop-i-test.false, c.loop-i.auto.i-end))) at c.loop-i.invariant
