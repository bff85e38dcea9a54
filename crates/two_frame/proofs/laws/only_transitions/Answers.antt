use Rattle.two_frame.proofs.Transitions.{only_transitions_in}
use Rattle.two_frame.proofs.laws.only_transitions.Goals as goal

pub returns : goal.returns
returns c f w k site lt fails = only_transitions_in c.args.parts.now c.circuit.ensures.fits c.order.result.now (rw c.circuit.ensures.value at c.order.ensures) w f site k lt fails
