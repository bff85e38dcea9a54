use Rattle.std.proofs.Common.{◌≡◌, ◌∙◌}
use Rattle.scan_model.proofs.Outputs.{output_in_range}
use Rattle.fail_logs.proofs.tables.output_names.Goals as goal

pub net_name-requires : goal.net_name-requires
net_name-requires c =
    let outputs : c.as_slice-outputs.result.now ≡ c.args.circuit.now.outputs = c.as_slice-outputs.ensures ∙ c.outputs.ensures.value in
    rw outputs (output_in_range c.args.circuit.now c.loop-output.output-index c.outputs.ensures.circuit.netlist (rw outputs at c.loop-output-test.true))
