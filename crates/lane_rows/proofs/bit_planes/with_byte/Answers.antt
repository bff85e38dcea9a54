use Rattle.std.proofs.Common.{arith}
use Rattle.lane_rows.proofs.BytePuts.{byte-put}
use Rattle.lane_rows.proofs.bit_planes.with_byte.Goals as goal

pub returns : goal.returns
returns c = λ i. rw c.from.ensures (byte-put c.args.word c.args.byte c.args.at i c.requires.byte (omega arith) (λ same. c.requires.blank i same))
