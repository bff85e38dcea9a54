use Rattle.std.proofs.Common.{ℕ, sym, ap, ◌∙◌, arith}
use Rattle.scan_model.specs.Coverage.{bit_of}
use Rattle.listed_bits.specs.FailReach.{reaches}
use Rattle.listed_bits.proofs.CutSteps.{cut_on}
use Rattle.listed_bits.proofs.ends.cut_ends.Goals as goal

pub loop-i-preserved : goal.loop-i-preserved
loop-i-preserved c = λ w k lt. rw c.min.ensures (cut_on c.args.ends.now c.loop-i.ends c.args.group.now c.loop-i.i c.end_at.result w k (reaches c.args.reach (bit_of w k)) c.loop-i-test.true (omega (arith, c.requires.group c.loop-i.i 0 c.loop-i-test.true, c.loop-i.auto.ends))
    (λ same. c.end_at.ensures w ∙ ap (λ (n : ℕ). reaches c.args.reach (bit_of w n)) (sym same)) (c.loop-i.invariant w k lt))
