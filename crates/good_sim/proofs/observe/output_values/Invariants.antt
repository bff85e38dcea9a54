use Rattle.std.proofs.Common.{◌≡◌, map}
use Rattle.std.specs.List.{range_with_len}
use Rattle.scan_model.specs.ChainShift.{value_at}
use Rattle.scan_model.specs.NetValue.{seen}
use Rattle.scan_model.specs.Response.{output_pin}
use Rattle.single_faults.specs.Effect.{forces}
use Rattle.good_sim.proofs.observe.output_values.Given as goal

abbrev pub invariant-loop-output : goal.invariant-loop-output
invariant-loop-output l = l.row.items ≡ map (λ k. seen l.circuit (forces l.effect) (value_at l.values) (output_pin l.circuit k)) (range_with_len 0 l.output)
