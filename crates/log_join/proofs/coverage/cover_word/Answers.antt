use Rattle.std.proofs.Common.{◌%◌, arith}
use Rattle.log_join.proofs.CoverSteps.{covered_on}
use Rattle.log_join.proofs.coverage.cover_word.Goals as goal

pub loop-point-preserved : goal.loop-point-preserved
loop-point-preserved c = λ w k lt. covered_on w k c.args.word c.loop-point.point c.args.ends.now c.args.mask c.pattern_mask-before.result _ _ _
    (c.set_bits.ensures w k lt) (c.pattern_mask-before.ensures (w % 64) (omega arith)) (c.loop-point.invariant w k lt)
