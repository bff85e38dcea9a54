use Rattle.std.proofs.lemmas.List.{get_or_default}
use Rattle.scan_model.specs.Netlist.{no_pin, pin_at}
use Rattle.explained_lanes.proofs.Explained.{placed_in}
use Rattle.explained_lanes.proofs.explain.pin_of.Goals as goal

pub returns-clause-pin : goal.returns-clause-pin
returns-clause-pin c = rw (c.as_slice.ensures, c.pins.ensures.value, c.circuit.ensures.value) (get_or_default c.args.parts.now.netlist.pins c.args.pin _ no_pin c.requires)

pub returns-clause-net : goal.returns-clause-net
returns-clause-net c = c.circuit.ensures.fits.circuit.netlist.pin_nets c.args.pin c.requires

pub returns-clause-place : goal.returns-clause-place
returns-clause-place c = placed_in c.args.parts.now c.args.pin (pin_at c.args.parts.now.netlist c.args.pin).place (c.circuit.ensures.fits.circuit.netlist.pin_places c.args.pin c.requires)
