use Rattle.listed_bits.proofs.CopySteps.{sets_on}
use Rattle.listed_bits.proofs.fails.set_listed.Goals as goal

pub loop-i-preserved : goal.loop-i-preserved
loop-i-preserved c = sets_on c.args.words.now c.loop-i.words c.set_bit.new.words c.args.points c.args.fails.now c.loop-i.i (record { pattern = 0; point = 0 }) c.loop-i-test.true
    c.set_bit.ensures c.loop-i.invariant
