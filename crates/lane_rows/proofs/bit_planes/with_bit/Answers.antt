use Rattle.lane_rows.proofs.BytePuts.{byte_bit-put}
use Rattle.lane_rows.proofs.bit_planes.with_bit.Goals as goal

pub returns : goal.returns
returns c = λ i. rw c.from.ensures (byte_bit-put c.args.byte c.args.at i c.args.is_set c.requires.lane c.requires.blank)
