use Rattle.two_frame.proofs.SlowOperands.{slow_operand_law}
use Rattle.two_frame.proofs.laws.slow_operands.Goals as goal

pub returns : goal.returns
returns c q g i w kind v p lt at drives is_point = slow_operand_law c.args.parts.now c.circuit.ensures.fits c.order.result.now (rw c.circuit.ensures.value at c.order.ensures) w q g i kind v lt at drives p is_point
