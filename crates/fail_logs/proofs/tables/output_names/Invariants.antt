use Rattle.std.proofs.Common.{◌≡◌, map, take}
use Rattle.scan_model.specs.Netlist.{net_at}
use Rattle.fail_logs.proofs.tables.output_names.Given as goal

abbrev pub invariant-loop-output : goal.invariant-loop-output
invariant-loop-output l = l.names ≡ map (λ n. (net_at l.circuit n).name) (take l.output-index l.outputs)
