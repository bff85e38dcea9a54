use Rattle.std.proofs.Common.{arith}
use Rattle.packed_sim.proofs.Forcing.{places_fit, force_fits, pair_fits, pair_within, pair_closed, pair_values}
use Rattle.packed_sim.proofs.scratch.Scratch.force_pair.Goals as goal

pub set-requires-clause-places : goal.set-requires-clause-places
set-requires-clause-places g c = places_fit c.args.circuit.now c.args.wiring.now.order.items c.args.wiring.now.sinks c.args.good.now c.args.self.now c.args.nets.0 c.requires.wiring c.requires.fits c.requires.first

pub set-requires-clause-net : goal.set-requires-clause-net
set-requires-clause-net g c = omega (arith, c.requires.first, c.requires.fits.own)

pub set-requires-clause-sinks : goal.set-requires-clause-sinks
set-requires-clause-sinks g c = omega (arith, c.requires.wiring.nets, c.requires.fits.own)

pub set-requires-clause-moved : goal.set-requires-clause-moved
set-requires-clause-moved g c = omega (arith, c.requires.first, c.requires.fits.moved_room)

pub set-requires-2 : goal.set-requires-2
set-requires-2 g c =
    let fits = force_fits c.args.circuit.now c.args.wiring.now.order.items c.nets.ensures.circuit.netlist c.requires.wiring.ordered c.args.wiring.now.sinks c.args.good.now c.requires.wiring
    c.args.nets.0 c.requires.first c.args.row c.args.self.now c.set.new.self c.requires.fits c.requires.clean c.requires.empty c.set.ensures in
    record {
      net = omega (arith, c.requires.second, fits.own);
      sinks = omega (arith, c.requires.wiring.nets, fits.own);
      places = places_fit c.args.circuit.now c.args.wiring.now.order.items c.args.wiring.now.sinks c.args.good.now c.set.new.self c.args.nets.1 c.requires.wiring fits c.requires.second;
      moved = omega (arith, c.requires.second, fits.moved_room);
    }

pub settle-requires-clause-fits : goal.settle-requires-clause-fits
settle-requires-clause-fits g c = pair_fits c.args.circuit.now c.args.wiring.now.order.items c.nets.ensures.circuit.netlist c.requires.wiring.ordered c.args.wiring.now.sinks c.args.good.now c.requires.wiring
    c.args.nets.0 c.args.nets.1 c.requires.first c.requires.second c.requires.apart c.args.row c.args.self.now c.set.new.self c.set-2.new.self c.requires.fits c.requires.clean c.requires.empty c.set.ensures c.set-2.ensures

pub returns-clause-values : goal.returns-clause-values
returns-clause-values g c = pair_values c.args.circuit.now c.args.wiring.now.order.items c.nets.ensures.circuit.netlist c.requires.wiring.ordered c.args.wiring.now.sinks c.args.good.now c.requires.wiring
    c.args.nets.0 c.args.nets.1 c.requires.first c.requires.second c.requires.apart c.args.row c.args.self.now c.set.new.self c.set-2.new.self c.requires.fits c.requires.clean c.requires.empty c.set.ensures c.set-2.ensures
    c.settle.new.self c.settle.ensures.settled

pub returns-clause-steps : goal.returns-clause-steps
returns-clause-steps g c = c.settle.ensures.steps _
    (pair_closed c.args.circuit.now c.args.wiring.now.order.items c.nets.ensures.circuit.netlist c.requires.wiring.ordered c.args.wiring.now.sinks c.args.good.now c.requires.wiring
    c.args.nets.0 c.args.nets.1 c.requires.first c.requires.second c.requires.apart c.args.row c.args.self.now c.set.new.self c.set-2.new.self c.requires.fits c.requires.clean c.requires.empty c.set.ensures c.set-2.ensures)
    (pair_within c.args.circuit.now c.args.wiring.now.order.items c.nets.ensures.circuit.netlist c.requires.wiring.ordered c.args.wiring.now.sinks c.args.good.now c.requires.wiring
    c.args.nets.0 c.args.nets.1 c.requires.first c.requires.second c.requires.apart c.args.row c.args.self.now c.set.new.self c.set-2.new.self c.requires.fits c.requires.clean c.requires.empty c.set.ensures c.set-2.ensures)
