use Rattle.std.proofs.Common.{length, ap, ◌∙◌, arith}
use Rattle.std.specs.Prelude.{bit_or}
use Rattle.std.proofs.lemmas.Simd.{length-zip2}
use Rattle.bit_rows.proofs.LaneOps.{lane-or}
use Rattle.bit_rows.proofs.row.Row.or.Goals as goal

pub invariant_of-result : goal.invariant_of-result
invariant_of-result c =
    ap length c.or_words.ensures ∙ length-zip2 bit_or c.self.inside.words c.other.inside.words (omega (arith, c.self.invariant, c.other.invariant)) ∙ c.self.invariant

pub returns : goal.returns
returns c j lt = rw (c.or_words.ensures, ← c.self.view_is, ← c.other.view_is) (lane-or c.self.inside.words c.other.inside.words j c.self.invariant c.other.invariant lt)
