use Rattle.bit_rows.specs.Lanes.{lane}
use Rattle.value_rows.proofs.LaneValues.{of_known_bits, of_known_apart}
use Rattle.value_rows.proofs.packed.Packed.of_known.Goals as goal

pub invariant_of-result : goal.invariant_of-result
invariant_of-result c = λ j lt. rw (c.and.ensures j lt, c.and-2.ensures j lt, c.not.ensures j lt) (of_known_apart (lane c.args.known j) (lane c.args.ones j))

pub returns : goal.returns
returns c = λ j lt. rw (c.and.ensures j lt, c.and-2.ensures j lt, c.not.ensures j lt) (of_known_bits (lane c.args.known j) (lane c.args.ones j))
