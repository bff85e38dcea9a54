use Rattle.value_rows.specs.Planes.{held}
use Rattle.value_rows.proofs.LaneValues.{or_bits, or_apart}
use Rattle.value_rows.proofs.packed.Packed.or.Goals as goal

pub invariant_of-result : goal.invariant_of-result
invariant_of-result c = λ j lt. rw (c.or.ensures j lt, c.and.ensures j lt, c.ones.ensures j lt, c.ones-2.ensures j lt, c.zeros.ensures j lt, c.zeros-2.ensures j lt) (or_apart (held c.args.self j) (held c.args.other j))

pub returns : goal.returns
returns c = λ j lt. rw (c.or.ensures j lt, c.and.ensures j lt, c.ones.ensures j lt, c.ones-2.ensures j lt, c.zeros.ensures j lt, c.zeros-2.ensures j lt) (or_bits (held c.args.self j) (held c.args.other j))
