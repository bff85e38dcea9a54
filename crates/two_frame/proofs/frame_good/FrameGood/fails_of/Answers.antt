use Rattle.std.proofs.Common.{◌≡◌, ◌+◌, ◌≤◌, length, Some, sym, ap, subst, ◌∙◌}
use Rattle.scan_model.specs.declared.fault.Fault.{Fault}
use Rattle.scan_model.specs.declared.fault.Fault.TheVariants as fault
use Rattle.scan_model.specs.ScanTest.{HasSite}
use Rattle.scan_model.specs.Coverage.{bit_of}
use Rattle.packed_sim.specs.PackedParts.{cone_gates}
use Rattle.two_frame.specs.TwoFrame.{frame_fails, makes_transition}
use Rattle.two_frame.specs.FrameRows.{transition_at}
use Rattle.two_frame.proofs.TransitionPlaces.{transition_is, not_past, no_bridge, no_cell}
use Rattle.two_frame.proofs.ShownFails.{unlaunched}
use Rattle.two_frame.proofs.frame_good.FrameGood.fails_of.Goals as goal

pub unreachable-requires : goal.unreachable-requires
unreachable-requires g c =
    let h = c.in-Some-Bridge in
    no_bridge c.args.parts.now h.field-0-0 h.field-0-1 h.field-0-2 c.args.place c.requires.place (sym (ap (λ (f : Fault). Some f) h.field-0-is) ∙ sym h.is ∙ c.fault_at.ensures.fault)

pub unreachable-requires-in-Some-Cell : goal.unreachable-requires-in-Some-Cell
unreachable-requires-in-Some-Cell g c =
    let h = c.in-Some-Cell in
    no_cell c.args.parts.now h.field-0-0 h.field-0-1 h.field-0-2 c.args.place c.requires.place (sym (ap (λ (f : Fault). Some f) h.field-0-is) ∙ sym h.is ∙ c.fault_at.ensures.fault)

pub unreachable-requires-in-None : goal.unreachable-requires-in-None
unreachable-requires-in-None g c = not_past c.args.parts.now c.args.place c.requires.place (sym c.in-None.is ∙ c.fault_at.ensures.fault)

-- ---- stems

pub returns-in-Some-Stem-clause-fails : goal.returns-in-Some-Stem-clause-fails
returns-in-Some-Stem-clause-fails g c k lt =
    let t = c.args.parts.now in
    let h = c.in-Some-Stem in
    let at : transition_at t c.args.place ≡ fault.Stem h.net h.value = transition_is t c.args.place h.field-0 c.requires.place (sym h.is ∙ c.fault_at.ensures.fault) ∙ h.field-0-is in
    c.stem_fails.ensures.fails k lt ∙ ap (λ (f : Fault). frame_fails t f (bit_of c.args.pattern k)) (sym at)

pub returns-in-Some-Stem-clause-launched : goal.returns-in-Some-Stem-clause-launched
returns-in-Some-Stem-clause-launched g c = λ still k lt.
    let t = c.args.parts.now in
    let h = c.in-Some-Stem in
    let site : HasSite t (transition_at t c.args.place) = subst (HasSite t) (sym (transition_is t c.args.place h.field-0 c.requires.place (sym h.is ∙ c.fault_at.ensures.fault))) h.ensures.site in
    returns-in-Some-Stem-clause-fails g c k lt
    ∙ unlaunched t c.circuit.ensures.fits c.order.result.now (rw c.circuit.ensures.value at c.order.ensures) c.args.pattern (transition_at t c.args.place) site still k lt

pub returns-in-Some-Stem-clause-idle : goal.returns-in-Some-Stem-clause-idle
returns-in-Some-Stem-clause-idle g c = λ still.
    let t = c.args.parts.now in
    let h = c.in-Some-Stem in
    let at : transition_at t c.args.place ≡ fault.Stem h.net h.value = transition_is t c.args.place h.field-0 c.requires.place (sym h.is ∙ c.fault_at.ensures.fault) ∙ h.field-0-is in
    c.stem_fails.ensures.idle (ap (λ (f : Fault). makes_transition t f c.args.pattern) (sym at) ∙ still)

pub returns-in-Some-Stem-clause-steps : goal.returns-in-Some-Stem-clause-steps
returns-in-Some-Stem-clause-steps g c =
    let t = c.args.parts.now in
    let h = c.in-Some-Stem in
    let at : transition_at t c.args.place ≡ fault.Stem h.net h.value = transition_is t c.args.place h.field-0 c.requires.place (sym h.is ∙ c.fault_at.ensures.fault) ∙ h.field-0-is in
    subst (λ (f : Fault). c.stem_fails.new.steps ≤ c.args.steps.now + length (cone_gates t f)) (sym at) c.stem_fails.ensures.steps

-- ---- branches

pub returns-in-Some-Branch-clause-fails : goal.returns-in-Some-Branch-clause-fails
returns-in-Some-Branch-clause-fails g c k lt =
    let t = c.args.parts.now in
    let h = c.in-Some-Branch in
    let at : transition_at t c.args.place ≡ fault.Branch h.pin h.value = transition_is t c.args.place h.field-0 c.requires.place (sym h.is ∙ c.fault_at.ensures.fault) ∙ h.field-0-is in
    c.branch_fails.ensures.fails k lt ∙ ap (λ (f : Fault). frame_fails t f (bit_of c.args.pattern k)) (sym at)

pub returns-in-Some-Branch-clause-launched : goal.returns-in-Some-Branch-clause-launched
returns-in-Some-Branch-clause-launched g c = λ still k lt.
    let t = c.args.parts.now in
    let h = c.in-Some-Branch in
    let site : HasSite t (transition_at t c.args.place) = subst (HasSite t) (sym (transition_is t c.args.place h.field-0 c.requires.place (sym h.is ∙ c.fault_at.ensures.fault))) h.ensures.site in
    returns-in-Some-Branch-clause-fails g c k lt
    ∙ unlaunched t c.circuit.ensures.fits c.order.result.now (rw c.circuit.ensures.value at c.order.ensures) c.args.pattern (transition_at t c.args.place) site still k lt

pub returns-in-Some-Branch-clause-idle : goal.returns-in-Some-Branch-clause-idle
returns-in-Some-Branch-clause-idle g c = λ still.
    let t = c.args.parts.now in
    let h = c.in-Some-Branch in
    let at : transition_at t c.args.place ≡ fault.Branch h.pin h.value = transition_is t c.args.place h.field-0 c.requires.place (sym h.is ∙ c.fault_at.ensures.fault) ∙ h.field-0-is in
    c.branch_fails.ensures.idle (ap (λ (f : Fault). makes_transition t f c.args.pattern) (sym at) ∙ still)

pub returns-in-Some-Branch-clause-steps : goal.returns-in-Some-Branch-clause-steps
returns-in-Some-Branch-clause-steps g c =
    let t = c.args.parts.now in
    let h = c.in-Some-Branch in
    let at : transition_at t c.args.place ≡ fault.Branch h.pin h.value = transition_is t c.args.place h.field-0 c.requires.place (sym h.is ∙ c.fault_at.ensures.fault) ∙ h.field-0-is in
    subst (λ (f : Fault). c.branch_fails.new.steps ≤ c.args.steps.now + length (cone_gates t f)) (sym at) c.branch_fails.ensures.steps
