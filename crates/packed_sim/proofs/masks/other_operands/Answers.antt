use Rattle.std.proofs.Common.{◌+◌, ◌∙◌}
use Rattle.std.proofs.lemmas.List.{get_or_default}
use Rattle.scan_model.specs.Netlist.{no_net}
use Rattle.packed_sim.proofs.OtherOperands.{gate_in_range, read_around, nets_in_range}
use Rattle.packed_sim.proofs.masks.other_operands.Goals as goal

pub bounds-as_slice-gate : goal.bounds-as_slice-gate
bounds-as_slice-gate c =
    let circuit = c.args.circuit.now in
    rw (c.as_slice.ensures, c.nets.ensures.value) (gate_in_range circuit c.nets.ensures.circuit.netlist c.args.pin c.args.gate c.requires.pin c.requires.gate.0 c.requires.gate.1)

pub returns-clause-reads : goal.returns-clause-reads
returns-clause-reads c =
    let circuit = c.args.circuit.now in
    let sound = c.nets.ensures.circuit.netlist in
    let net = c.index-as_slice-gate.result in
    let gate_lt = gate_in_range circuit sound c.args.pin c.args.gate c.requires.pin c.requires.gate.0 c.requires.gate.1 in
    read_around circuit sound c.args.pin c.args.gate c.requires.pin c.requires.gate.0 c.requires.gate.1 net c.as_slice-pins.result.now
    (rw (c.as_slice.ensures, c.nets.ensures.value, get_or_default circuit.nets c.args.gate net no_net gate_lt) at c.index-as_slice-gate.is)
    (c.as_slice-pins.ensures ∙ c.pins.ensures.value)

pub returns-clause-in_front : goal.returns-clause-in_front
returns-clause-in_front c =
    let net = c.index-as_slice-gate.result in
    rw (c.as_slice-pins.ensures, c.pins.ensures.value) (nets_in_range c.args.circuit.now c.nets.ensures.circuit.netlist c.args.pin c.args.gate c.requires.pin c.requires.gate.0 c.requires.gate.1 net.first_pin c.args.pin)

pub returns-clause-behind : goal.returns-clause-behind
returns-clause-behind c =
    let net = c.index-as_slice-gate.result in
    rw (c.as_slice-pins.ensures, c.pins.ensures.value) (nets_in_range c.args.circuit.now c.nets.ensures.circuit.netlist c.args.pin c.args.gate c.requires.pin c.requires.gate.0 c.requires.gate.1 (c.args.pin + 1) (net.first_pin + net.pin_count))
