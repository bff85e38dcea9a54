use Rattle.value_rows.specs.Planes.{held}
use Rattle.value_rows.proofs.LaneValues.{xor_bits, xor_apart}
use Rattle.value_rows.proofs.packed.Packed.xor.Goals as goal

pub invariant_of-result : goal.invariant_of-result
invariant_of-result c = λ j lt. rw (c.opposite.ensures j lt, c.equal.ensures j lt) (xor_apart (held c.args.self j) (held c.args.other j))

pub returns : goal.returns
returns c = λ j lt. rw (c.opposite.ensures j lt, c.equal.ensures j lt) (xor_bits (held c.args.self j) (held c.args.other j))
