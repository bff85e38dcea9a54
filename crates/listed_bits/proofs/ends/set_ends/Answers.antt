use Rattle.std.proofs.Common.{arith}
use Rattle.scan_model.specs.Coverage.{bit_of}
use Rattle.listed_bits.specs.FailReach.{reaches}
use Rattle.listed_bits.proofs.CutSteps.{ends_on}
use Rattle.listed_bits.proofs.ends.set_ends.Goals as goal

pub loop-point-preserved : goal.loop-point-preserved
loop-point-preserved c = λ w k lt. ends_on c.loop-point.ends c.loop-point.point k c.end_at.result w (λ n. reaches c.args.reach (bit_of w n))
    (omega (arith, c.loop-point-test.true, c.requires.points, c.loop-point.auto.ends)) lt (c.end_at.ensures w) (c.loop-point.invariant w k)
