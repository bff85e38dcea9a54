use Rattle.std.proofs.Common.{◌||◌, ◌∙◌}
use Rattle.bit_rows.specs.Lanes.{differ}
use Rattle.value_rows.specs.Planes.{held}
use Rattle.value_rows.proofs.LaneValues.{no_difference}
use Rattle.value_rows.proofs.packed.Packed.is_same.Goals as goal

pub returns-clause-differ : goal.returns-clause-differ
returns-clause-differ c = λ same. c.is_empty.ensures.some (λ j lt.
    c.or.ensures j lt
    ∙ (λ i. (c.xor-ones.ensures j lt ∙ (λ k. differ (c.ones.ensures j lt k) (c.ones-2.ensures j lt k))) i || (c.xor-zeros.ensures j lt ∙ (λ k. differ (c.zeros.ensures j lt k) (c.zeros-2.ensures j lt k))) i)
    ∙ no_difference (held c.args.self j) (held c.args.other j) (same j lt))
