use Rattle.log_join.proofs.CoverSteps.{words_on}
use Rattle.log_join.proofs.coverage.cover_words.Goals as goal

pub loop-word-preserved : goal.loop-word-preserved
loop-word-preserved c = λ w k lt. words_on c.args.tested.now c.args.ends.now w k c.loop-word.word _ _ _ (c.cover_tested.ensures w k lt) (c.loop-word.invariant w k lt)
