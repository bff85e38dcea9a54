use Rattle.std.proofs.Common.{◌≡◌, ◌∙◌, ap, length, replicate, refl}
use Rattle.std.proofs.lemmas.List.{length-replicate}
use Rattle.scan_model.specs.declared.values.Tri.TheVariants.{Unknown}
use Rattle.scan_model.specs.NetValue.{loads_of}
use Rattle.good_sim.specs.declared.chains.Direction.TheVariants.{Out}
use Rattle.good_sim.specs.Shifts.{shifted_rows}
use Rattle.good_sim.proofs.Observing.{loads_fit, shift_is}
use Rattle.good_sim.proofs.response.shift_response.Goals as goal

pub shown_past_fault-requires-clause-outputs : goal.shown_past_fault-requires-clause-outputs
shown_past_fault-requires-clause-outputs c = rw c.deref.ensures.value
    (ap length (c.in_ok-outputs.ensures.items_if_clones_equal (λ y e. e)) ∙ length-replicate c.len.result Unknown ∙ c.len.ensures ∙ ap length c.outputs.ensures.value ∙ ap (λ n. length n.outputs) c.circuit.ensures.value)

pub shown_past_fault-requires-clause-held : goal.shown_past_fault-requires-clause-held
shown_past_fault-requires-clause-held c = rw c.requires.loads (loads_fit c.args.parts.now c.args.fault c.args.pattern c.circuit.ensures.fits c.requires.pattern)

pub returns : goal.returns
returns c =
    let t = c.args.parts.now in
    let outputs : c.in_ok-outputs.outputs.items ≡ replicate c.len.result Unknown = c.in_ok-outputs.ensures.items_if_clones_equal (λ y e. e) in
    let shown = rw (c.deref.ensures.value, c.requires.loads) at c.shown_past_fault.ensures in
    rw (shift_is t c.args.fault c.args.pattern c.len.result c.in_ok-outputs.outputs.items (shifted_rows Out c.args.fault (loads_of t c.args.fault c.args.pattern)) c.circuit.ensures.fits c.requires.pattern c.requires.shifts outputs refl) at shown
