use Rattle.value_rows.specs.Planes.{held}
use Rattle.value_rows.proofs.LaneValues.{and_bits, and_apart}
use Rattle.value_rows.proofs.packed.Packed.and.Goals as goal

pub invariant_of-result : goal.invariant_of-result
invariant_of-result c = λ j lt. rw (c.and.ensures j lt, c.or.ensures j lt, c.ones.ensures j lt, c.ones-2.ensures j lt, c.zeros.ensures j lt, c.zeros-2.ensures j lt) (and_apart (held c.args.self j) (held c.args.other j))

pub returns : goal.returns
returns c = λ j lt. rw (c.and.ensures j lt, c.or.ensures j lt, c.ones.ensures j lt, c.ones-2.ensures j lt, c.zeros.ensures j lt, c.zeros-2.ensures j lt) (and_bits (held c.args.self j) (held c.args.other j))
