use Rattle.listed_bits.proofs.CopySteps.{copies_on}
use Rattle.listed_bits.proofs.fails.copy_bits.Goals as goal

pub loop-i-preserved : goal.loop-i-preserved
loop-i-preserved c = copies_on c.args.from.now c.args.into.now c.loop-i.into c.write_bit.new.words c.args.points c.args.fails.now c.loop-i.i (record { pattern = 0; point = 0 }) c.bit-is_set.result c.loop-i-test.true
    c.bit-is_set.ensures c.write_bit.ensures c.loop-i.invariant
