use Rattle.frame_rows.proofs.SecondValues.{none_is}
use Rattle.frame_rows.proofs.laws.second_frame.Goals as goal

pub returns : goal.returns
returns c w n lt = none_is c.args.parts.now c.circuit.ensures.fits c.order.result.now (rw c.circuit.ensures.value at c.order.ensures) w n lt
