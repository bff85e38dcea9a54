use Rattle.std.proofs.Common.{not}
use Rattle.scan_model.specs.Values.{is_zero, is_one, is_unknown}
use Rattle.scan_model.specs.Netlist.{pin_at, reads}
use Rattle.lane_rows.specs.Lanes.{lane}
use Rattle.lane_rows.specs.Sources.{lane_values}
use Rattle.packed_sim.proofs.OtherOperands.{sensed_in_parts, sensed_alone, free_of_and, free_of_or, free_of_xor}
use Rattle.packed_sim.proofs.masks.sensed.Goals as goal

pub returns-in-And : goal.returns-in-And
returns-in-And c j lt =
    let circuit = c.args.circuit.now in
    let value = lane_values c.args.values.now j in
    sensed_in_parts c.args.gate.1 value (λ pin. is_one (value pin.net)) (λ pin. free_of_and c.args.gate.1 c.in-And.is (value pin.net)) (reads circuit c.args.gate.0) (pin_at circuit c.args.pin).net
    c.other_operands.result.0.now c.other_operands.result.1.now c.other_operands.ensures.reads
    (lane c.args.lanes j) (lane c.all_one-half.result j) (lane c.all_one.result j) (c.all_one-half.ensures j lt) (c.all_one.ensures j lt)

pub returns-in-Or : goal.returns-in-Or
returns-in-Or c j lt =
    let circuit = c.args.circuit.now in
    let value = lane_values c.args.values.now j in
    sensed_in_parts c.args.gate.1 value (λ pin. is_zero (value pin.net)) (λ pin. free_of_or c.args.gate.1 c.in-Or.is (value pin.net)) (reads circuit c.args.gate.0) (pin_at circuit c.args.pin).net
    c.other_operands.result.0.now c.other_operands.result.1.now c.other_operands.ensures.reads
    (lane c.args.lanes j) (lane c.all_zero-half.result j) (lane c.all_zero.result j) (c.all_zero-half.ensures j lt) (c.all_zero.ensures j lt)

pub returns-in-Xor : goal.returns-in-Xor
returns-in-Xor c j lt =
    let circuit = c.args.circuit.now in
    let value = lane_values c.args.values.now j in
    sensed_in_parts c.args.gate.1 value (λ pin. not (is_unknown (value pin.net))) (λ pin. free_of_xor c.args.gate.1 c.in-Xor.is (value pin.net)) (reads circuit c.args.gate.0) (pin_at circuit c.args.pin).net
    c.other_operands.result.0.now c.other_operands.result.1.now c.other_operands.ensures.reads
    (lane c.args.lanes j) (lane c.all_known-half.result j) (lane c.all_known.result j) (c.all_known-half.ensures j lt) (c.all_known.ensures j lt)

pub returns-in-Not : goal.returns-in-Not
returns-in-Not c j lt =
    let circuit = c.args.circuit.now in
    sensed_alone c.args.gate.1 c.in-Not.is (lane_values c.args.values.now j) (reads circuit c.args.gate.0) (pin_at circuit c.args.pin).net
    c.other_operands.result.0.now c.other_operands.result.1.now c.other_operands.ensures.reads (lane c.args.lanes j)
