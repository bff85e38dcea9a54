use Rattle.bit_rows.specs.Lanes.{lane}
use Rattle.value_rows.specs.Planes.{held}
use Rattle.value_rows.proofs.LaneValues.{picked, picked_apart}
use Rattle.value_rows.proofs.packed.Packed.pick.Goals as goal

pub invariant_of-result : goal.invariant_of-result
invariant_of-result c = λ j lt.
    rw (c.pick.ensures j lt, c.pick-2.ensures j lt, c.ones.ensures j lt, c.ones-2.ensures j lt, c.zeros.ensures j lt, c.zeros-2.ensures j lt)
    (picked_apart (lane c.args.lanes j) (held c.args.inside j) (held c.args.outside j))

pub returns : goal.returns
returns c = λ j lt.
    rw (c.pick.ensures j lt, c.pick-2.ensures j lt, c.ones.ensures j lt, c.ones-2.ensures j lt, c.zeros.ensures j lt, c.zeros-2.ensures j lt)
    (picked (lane c.args.lanes j) (held c.args.inside j) (held c.args.outside j))
