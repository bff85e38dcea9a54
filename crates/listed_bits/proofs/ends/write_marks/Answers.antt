use Rattle.std.proofs.Common.{arith}
use Rattle.listed_bits.proofs.CutSteps.{marks_on}
use Rattle.listed_bits.proofs.ends.write_marks.Goals as goal

pub loop-i-preserved : goal.loop-i-preserved
loop-i-preserved c = λ k lt. marks_on c.args.marks.now c.loop-i.marks c.args.group.now c.loop-i.i k c.args.mark c.loop-i-test.true (omega (arith, c.requires c.loop-i.i 0 c.loop-i-test.true, c.loop-i.auto.marks))
    (c.loop-i.invariant k lt)
