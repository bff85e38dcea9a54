use Rattle.value_rows.specs.Planes.{held}
use Rattle.value_rows.proofs.LaneValues.{known_bits}
use Rattle.value_rows.proofs.packed.Packed.known.Goals as goal

pub returns : goal.returns
returns c = λ j lt. rw (c.or.ensures j lt, c.ones.ensures j lt, c.zeros.ensures j lt) (known_bits (held c.args.self j))
