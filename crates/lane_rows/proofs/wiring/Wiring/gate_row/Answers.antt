use Rattle.std.proofs.Common.{◌∙◌}
use Rattle.lane_rows.proofs.KeptGates.{reads_there, reads_count, node_of_reads}
use Rattle.lane_rows.proofs.wiring.Wiring.gate_row.Goals as goal

pub kind_row-requires-clause-operands : goal.kind_row-requires-clause-operands
kind_row-requires-clause-operands g c = rw (c.requires.nets, c.deref.ensures.value) (reads_there c.args.circuit.now c.nets.ensures.circuit.netlist c.args.self.now.order.items c.args.self.now.gates.items c.args.self.now.operands.items c.requires.kept
    c.args.place c.requires.place c.index-gate.result.now c.index-gate.ensures)

pub kind_row-requires-clause-count : goal.kind_row-requires-clause-count
kind_row-requires-clause-count g c = rw c.deref.ensures.value (reads_count c.args.circuit.now c.nets.ensures.circuit.netlist c.args.self.now.order.items c.args.self.now.gates.items c.args.self.now.operands.items c.requires.kept
    c.args.place c.requires.place c.index-gate.result.now c.index-gate.ensures)

pub returns : goal.returns
returns g c j lt = rw c.deref.ensures.value at (c.kind_row.ensures j lt)
    ∙ node_of_reads c.args.circuit.now c.nets.ensures.circuit.netlist c.args.self.now.order.items c.args.self.now.gates.items c.args.self.now.operands.items c.requires.kept
    c.args.place c.requires.place c.index-gate.result.now c.index-gate.ensures
    (λ m. g.V.NetRows.value c.args.values.now m j)
