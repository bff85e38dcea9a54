use Rattle.scan_model.specs.ChainShift.{value_at}
use Rattle.single_faults.specs.Effect.{forces}
use Rattle.good_sim.proofs.Observing.{captured_fit, length-outputs}
use Rattle.good_sim.proofs.response.shown_after_capture.Goals as goal

pub shown_past_fault-requires-clause-outputs : goal.shown_past_fault-requires-clause-outputs
shown_past_fault-requires-clause-outputs c =
    let outputs = rw c.circuit.ensures.value at c.in_ok-outputs.ensures in
    rw c.deref.ensures.value (length-outputs c.args.parts.now.netlist (forces c.args.effect) (value_at c.args.values.now) c.in_ok-outputs.outputs.items outputs)

pub shown_past_fault-requires-clause-held : goal.shown_past_fault-requires-clause-held
shown_past_fault-requires-clause-held c = rw (c.deref-2.ensures.value, c.in_ok-captured.ensures) (captured_fit c.args.parts.now.netlist (forces c.args.effect) (value_at c.args.values.now) c.args.parts.now.chains)

pub returns : goal.returns
returns c =
    let outputs = rw c.circuit.ensures.value at c.in_ok-outputs.ensures in
    rw (c.deref.ensures.value, c.deref-2.ensures.value, outputs, c.in_ok-captured.ensures) at c.shown_past_fault.ensures
