use Rattle.std.proofs.Common.{ℕ, ◌∙◌}
use Rattle.std.proofs.lemmas.List.{get_or_default}
use Rattle.scan_model.specs.Netlist.{no_net}
use Rattle.lane_rows.proofs.KeptGates.{node_of_pins}
use Rattle.lane_rows.proofs.gates.gate_row.Goals as goal

pub returns-in-Gate : goal.returns-in-Gate
returns-in-Gate g c j lt =
    let net = c.index-as_slice-gate.result in
    c.kind_row.ensures j lt
    ∙ node_of_pins c.args.circuit.now c.nets.ensures.circuit.netlist c.args.gate c.requires.gate net c.as_slice-in-Gate.result.now c.in-Gate.kind (λ (m : ℕ). g.V.NetRows.value c.args.values.now m j)
    (rw (c.as_slice.ensures, c.nets.ensures.value, get_or_default c.args.circuit.now.nets c.args.gate net no_net c.requires.gate) at c.index-as_slice-gate.is) (c.as_slice-in-Gate.ensures ∙ c.pins.ensures.value) c.in-Gate.is
