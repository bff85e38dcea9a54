use Rattle.std.proofs.Common.{arith}
use Rattle.packed_sim.proofs.Forcing.{places_fit, force_fits, force_within, force_closed, force_values}
use Rattle.packed_sim.proofs.scratch.Scratch.force.Goals as goal

pub set-requires-clause-places : goal.set-requires-clause-places
set-requires-clause-places g c = places_fit c.args.circuit.now c.args.wiring.now.order.items c.args.wiring.now.sinks c.args.good.now c.args.self.now c.args.net c.requires.wiring c.requires.fits c.requires.net

pub set-requires-clause-net : goal.set-requires-clause-net
set-requires-clause-net g c = omega (arith, c.requires.net, c.requires.fits.own)

pub set-requires-clause-sinks : goal.set-requires-clause-sinks
set-requires-clause-sinks g c = omega (arith, c.requires.wiring.nets, c.requires.fits.own)

pub set-requires-clause-moved : goal.set-requires-clause-moved
set-requires-clause-moved g c = omega (arith, c.requires.net, c.requires.fits.moved_room)

pub settle-requires-clause-fits : goal.settle-requires-clause-fits
settle-requires-clause-fits g c = force_fits c.args.circuit.now c.args.wiring.now.order.items c.nets.ensures.circuit.netlist c.requires.wiring.ordered c.args.wiring.now.sinks c.args.good.now c.requires.wiring
    c.args.net c.requires.net c.args.row c.args.self.now c.set.new.self c.requires.fits c.requires.clean c.requires.empty c.set.ensures

pub returns-clause-values : goal.returns-clause-values
returns-clause-values g c = force_values c.args.circuit.now c.args.wiring.now.order.items c.nets.ensures.circuit.netlist c.requires.wiring.ordered c.args.wiring.now.sinks c.args.good.now c.requires.wiring
    c.args.net c.requires.net c.args.row c.args.self.now c.set.new.self c.requires.fits c.requires.clean c.requires.empty c.set.ensures c.settle.new.self c.settle.ensures.settled

pub returns-clause-steps : goal.returns-clause-steps
returns-clause-steps g c = c.settle.ensures.steps _
    (force_closed c.args.circuit.now c.args.wiring.now.order.items c.nets.ensures.circuit.netlist c.requires.wiring.ordered c.args.wiring.now.sinks c.args.good.now c.requires.wiring
    c.args.net c.requires.net c.args.row c.args.self.now c.set.new.self c.requires.fits c.requires.clean c.requires.empty c.set.ensures)
    (force_within c.args.circuit.now c.args.wiring.now.order.items c.nets.ensures.circuit.netlist c.requires.wiring.ordered c.args.wiring.now.sinks c.args.good.now c.requires.wiring
    c.args.net c.requires.net c.args.row c.args.self.now c.set.new.self c.requires.fits c.requires.clean c.requires.empty c.set.ensures)
