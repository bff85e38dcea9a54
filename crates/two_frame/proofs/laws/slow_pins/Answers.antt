use Rattle.two_frame.proofs.SlowPins.{straight_law}
use Rattle.two_frame.proofs.laws.slow_pins.Goals as goal

pub returns : goal.returns
returns c q w v p lt no_gate is_point = straight_law c.args.parts.now c.circuit.ensures.fits c.order.result.now (rw c.circuit.ensures.value at c.order.ensures) w q v lt no_gate p is_point
