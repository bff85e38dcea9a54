use Rattle.two_frame.proofs.SlowStems.{slow_stem_law}
use Rattle.two_frame.proofs.laws.slow_stems.Goals as goal

pub returns : goal.returns
returns c m w v p lt is_point = slow_stem_law c.args.parts.now c.circuit.ensures.fits c.order.result.now (rw c.circuit.ensures.value at c.order.ensures) w m v lt p is_point
