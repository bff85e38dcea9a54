use Rattle.scan_model.specs.ChainShift.{value_at}
use Rattle.scan_model.specs.NetValue.{seen}
use Rattle.scan_model.specs.Response.{output_pin}
use Rattle.single_faults.specs.Effect.{forces}
use Rattle.good_sim.proofs.Evaluated.{mapped_more}
use Rattle.good_sim.proofs.observe.output_values.Goals as goal

pub loop-output-preserved : goal.loop-output-preserved
loop-output-preserved c = mapped_more (λ k. seen c.args.circuit.now (forces c.args.effect) (value_at c.args.values.now) (output_pin c.args.circuit.now k)) c.loop-output.output c.loop-output.row.items c.push.new.self.items c.output_value.result
    c.in_ok-push.ensures.items c.loop-output.invariant c.output_value.ensures
