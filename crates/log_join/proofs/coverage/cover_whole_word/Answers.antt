use Rattle.log_join.proofs.CoverSteps.{whole_on}
use Rattle.log_join.proofs.coverage.cover_whole_word.Goals as goal

pub loop-point-preserved : goal.loop-point-preserved
loop-point-preserved c = λ w k lt. whole_on w k c.args.word c.loop-point.point c.args.mask _ _ _ (c.set_bits.ensures w k lt) (c.loop-point.invariant w k lt)
