use Rattle.scan_model.specs.declared.fault.Fault.TheVariants as fault
use Rattle.scan_model.proofs.Sites.{site_of}
use Rattle.packed_sim.proofs.good.PackedGood.branch_fails.Goals as goal

pub gate_of_pin-requires : goal.gate_of_pin-requires
gate_of_pin-requires g c = rw c.circuit.ensures.value (site_of c.args.parts.now (fault.Branch c.args.branch.0 c.args.branch.1) c.circuit.ensures.fits c.requires.fault)

pub straight_fails-requires-clause-pin : goal.straight_fails-requires-clause-pin
straight_fails-requires-clause-pin g c = site_of c.args.parts.now (fault.Branch c.args.branch.0 c.args.branch.1) c.circuit.ensures.fits c.requires.fault
