use Rattle.std.proofs.Common.{length, ap, ◌∙◌, arith}
use Rattle.std.specs.Prelude.{bit_and}
use Rattle.std.proofs.lemmas.Simd.{length-zip2}
use Rattle.bit_rows.proofs.LaneOps.{lane-and}
use Rattle.bit_rows.proofs.row.Row.and.Goals as goal

pub invariant_of-result : goal.invariant_of-result
invariant_of-result c =
    ap length c.and_words.ensures ∙ length-zip2 bit_and c.self.inside.words c.other.inside.words (omega (arith, c.self.invariant, c.other.invariant)) ∙ c.self.invariant

pub returns : goal.returns
returns c j lt = rw (c.and_words.ensures, ← c.self.view_is, ← c.other.view_is) (lane-and c.self.inside.words c.other.inside.words j c.self.invariant c.other.invariant lt)
