use Rattle.std.proofs.Common.{◌≡◌, ℕ, ◌||◌, ap, sym, ◌∙◌}
use Rattle.std.proofs.lemmas.Bool.{both_ways}
use Rattle.scan_model.specs.declared.circuit.PinPlace.TheVariants as place
use Rattle.scan_model.specs.declared.fault.Fault.TheVariants as fault
use Rattle.scan_model.specs.declared.fault.Stuck.TheVariants.{Zero, One}
use Rattle.scan_model.specs.Netlist.{is_gate, is_gate_driver, pin_at}
use Rattle.scan_model.specs.Masks.{mask_from}
use Rattle.lane_rows.specs.GoodRows.{pattern_of}
use Rattle.lane_rows.specs.Stimuli.{stimuli_of}
use Rattle.packed_sim.proofs.Belonging.{own_rows}
use Rattle.packed_sim.proofs.good.PackedGood.pin_mask.Goals as goal

pub returns-in-None-clause-lanes : goal.returns-in-None-clause-lanes
returns-in-None-clause-lanes c σ rows n i j kind stands driven lt captured = absurd (both_ways (is_gate c.circuit.result.now n)
    (c.in-None.ensures n i (rw c.circuit.ensures.value stands)) (rw c.circuit.ensures.value (ap is_gate_driver driven)))

pub returns-in-None-clause-good : goal.returns-in-None-clause-good
returns-in-None-clause-good c belongs = returns-in-None-clause-lanes c (stimuli_of c.args.parts.now) (own_rows c.args.parts.now c.args.self.now belongs)

pub returns-in-Some-clause-lanes : goal.returns-in-Some-clause-lanes
returns-in-Some-clause-lanes c σ rows n i j kind stands driven lt captured =
    let t = c.args.parts.now in
    let placed : (pin_at t.netlist c.args.pin).place ≡ place.Operand c.in-Some.gate.0 c.in-Some.ensures.index = rw c.circuit.ensures.value at c.in-Some.ensures.placed in
    let both : place.Operand c.in-Some.gate.0 c.in-Some.ensures.index ≡ place.Operand n i = sym placed ∙ stands in
    let same : c.in-Some.gate.0 ≡ n = cc in
    let source = σ.source (pattern_of c.args.block j) in
    c.gate_flips.ensures σ rows j lt captured
    ∙ ap (λ (m : ℕ). mask_from t.netlist source (fault.Branch c.args.pin Zero) m || mask_from t.netlist source (fault.Branch c.args.pin One) m) same

pub returns-in-Some-clause-good : goal.returns-in-Some-clause-good
returns-in-Some-clause-good c belongs = returns-in-Some-clause-lanes c (stimuli_of c.args.parts.now) (own_rows c.args.parts.now c.args.self.now belongs)
