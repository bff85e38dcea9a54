use Rattle.bit_rows.proofs.LaneOps.{lane-xor}
use Rattle.bit_rows.proofs.row.Row.xor.Goals as goal

pub returns : goal.returns
returns c j lt = rw (c.xor_words.ensures, ← c.self.view_is, ← c.other.view_is) (lane-xor c.self.inside.words c.other.inside.words j c.self.invariant c.other.invariant lt)
