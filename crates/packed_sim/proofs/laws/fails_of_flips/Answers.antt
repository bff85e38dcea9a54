use Rattle.scan_model.proofs.counting.Masks.{masks-capture, masks-shift, one_flipped}
use Rattle.scan_model.proofs.counting.Suspects.{predicted_flips}
use Rattle.packed_sim.proofs.laws.fails_of_flips.Goals as goal

pub returns-clause-capture : goal.returns-clause-capture
returns-clause-capture c f w k in' logic lt kind = masks-capture c.args.parts.now c.circuit.ensures.fits c.order.result.now (rw c.circuit.ensures.value at c.order.ensures) w f k in' logic lt kind

pub returns-clause-shift : goal.returns-clause-shift
returns-clause-shift c f w k logic lt kind = masks-shift c.args.parts.now c.circuit.ensures.fits c.order.result.now (rw c.circuit.ensures.value at c.order.ensures) w f k logic lt kind

pub returns-clause-one : goal.returns-clause-one
returns-clause-one c f w m n at_m at_n = one_flipped c.args.parts.now f w m n at_m at_n

pub returns-clause-site : goal.returns-clause-site
returns-clause-site c f w k in' logic lt kind shows =
    predicted_flips c.args.parts.now c.circuit.ensures.fits c.order.result.now (rw c.circuit.ensures.value at c.order.ensures) f w k in' logic lt kind shows
