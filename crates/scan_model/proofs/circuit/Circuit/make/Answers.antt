use Rattle.std.proofs.lemmas.Result.{err_from_is_err_and}
use Rattle.scan_model.specs.Netlist.{netlist}
use Rattle.scan_model.proofs.GateOrder.{wired_circuit, order_of_circuit, levels_of_circuit, fault_of_circuit}
use Rattle.scan_model.proofs.circuit.Circuit.make.Goals as goal

pub evaluation_order-requires : goal.evaluation_order-requires
evaluation_order-requires c = rw (c.as_slice.ensures, c.as_slice-2.ensures) (wired_circuit c.args.nets c.args.pins c.args.inputs c.args.outputs c.requires)

pub branch_pins-requires-clause-wired : goal.branch_pins-requires-clause-wired
branch_pins-requires-clause-wired c = rw (c.as_slice-3.ensures, c.as_slice-4.ensures) (wired_circuit c.args.nets c.args.pins c.args.inputs c.args.outputs c.requires)

pub invariant_of-result : goal.invariant_of-result
invariant_of-result c =
    let found = rw (c.as_slice.ensures, c.as_slice-2.ensures) at c.in_ok-order.ensures.ok in
    record {
      circuit = c.requires;
      evaluation = order_of_circuit c.args.nets c.args.pins c.args.inputs c.args.outputs c.in_ok-order.order found;
      branches = rw (c.as_slice-3.ensures, c.as_slice-4.ensures) at c.in_ok-branch_pins.ensures;
    }

pub returns-clause-levels : goal.returns-clause-levels
returns-clause-levels c =
    let found = rw (c.as_slice.ensures, c.as_slice-2.ensures) at c.in_ok-order.ensures.ok in
    levels_of_circuit (netlist c.args.nets c.args.pins c.args.inputs c.args.outputs) c.in_ok-order.order (order_of_circuit c.args.nets c.args.pins c.args.inputs c.args.outputs c.in_ok-order.order found)

pub returns-in_err-order-clause-no_level : goal.returns-in_err-order-clause-no_level
returns-in_err-order-clause-no_level c =
    let found = rw (c.as_slice.ensures, c.as_slice-2.ensures) at c.in_err-order.ensures.no_level in
    let fault = fault_of_circuit c.args.nets c.args.pins c.args.inputs c.args.outputs c.in_err-order.field-0.0 found in
    let p = err_from_is_err_and c.from_residual.result c.from_residual.ensures.1 in
    rw (p.1, p.2) fault
