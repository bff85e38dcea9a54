use Rattle.value_rows.specs.Planes.{held}
use Rattle.value_rows.proofs.LaneValues.{equal_bits}
use Rattle.value_rows.proofs.packed.Packed.equal.Goals as goal

pub returns : goal.returns
returns c = λ j lt.
    rw (c.or.ensures j lt, c.and-high.ensures j lt, c.and-low.ensures j lt, c.ones.ensures j lt, c.ones-2.ensures j lt, c.zeros.ensures j lt, c.zeros-2.ensures j lt)
    (equal_bits (held c.args.self j) (held c.args.other j))
