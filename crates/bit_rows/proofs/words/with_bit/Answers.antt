use Rattle.bit_rows.proofs.LaneOps.{bit-put}
use Rattle.bit_rows.proofs.words.with_bit.Goals as goal

pub returns : goal.returns
returns c = λ i lt. rw c.from.ensures (bit-put c.args.word c.args.at i c.args.is_set c.requires lt)
