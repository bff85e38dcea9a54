use Rattle.std.proofs.Common.{◌%◌, arith}
use Rattle.scan_model.proofs.WordMasks.{word_marked}
use Rattle.scan_model.proofs.masks.mark_patterns.Goals as goal

pub loop-word-preserved : goal.loop-word-preserved
loop-word-preserved c = λ w. word_marked c.args.first c.args.last c.loop-word.word w _ _ _ _ (c.set_bits.ensures w 0 (omega arith)) (c.pattern_mask.ensures (w % 64) (omega arith)) (c.loop-word.invariant w)
