use Rattle.std.proofs.Common.{◌≡◌, ℕ, ◌/◌, ◌%◌, ◌==◌, Bool, ◌&&◌, refl, sym, ap, ◌∙◌, arith}
use Rattle.std.proofs.lemmas.Bool.{eq-eqb}
use Rattle.scan_model.specs.declared.fault.Fault.TheVariants as fault
use Rattle.scan_model.specs.Netlist.{pin_at}
use Rattle.scan_model.specs.Masks.{flip_shows_from, mask_from}
use Rattle.lane_rows.specs.Lanes.{lane}
use Rattle.lane_rows.specs.GoodRows.{pattern_of}
use Rattle.lane_rows.specs.Stimuli.{captures}
use Rattle.packed_sim.specs.PackedParts.{observed_at}
use Rattle.frame_rows.specs.Frames.{second_source, net_changes}
use Rattle.frame_rows.specs.SecondRows.{second_stimuli}
use Rattle.two_frame.proofs.Captures.{captured}
use Rattle.two_frame.proofs.ShownFails.{and_same, gate_fails-is}
use Rattle.two_frame.proofs.frame_good.FrameGood.gate_fails.Goals as goal

pub returns-clause-fails : goal.returns-clause-fails
returns-clause-fails g c k lt =
    let t = c.args.parts.now in
    let w = c.args.pattern in
    let at = w % 512 in
    let gate = c.args.gate.0 in
    let found = c.requires.gate in
    let f = fault.Branch c.args.branch.0 c.args.branch.1 in
    let shows = flip_shows_from t.netlist (second_source t w) gate (observed_at t k) in
    let same : pattern_of (w / 512) at ≡ w = omega arith in
    let net_is : c.net_of_pin.result ≡ (pin_at t.netlist c.args.branch.0).net = rw c.circuit-circuit.ensures.value at c.net_of_pin.ensures.value in
    let flips : lane c.branch_mask-flips.result at ≡ mask_from t.netlist (second_source t w) f gate =
    c.branch_mask-flips.ensures.lanes (second_stimuli t) c.requires.good.second gate found.index at c.args.gate.1 found.placed found.driven (omega arith) (ap (captures t) same ∙ captured t c.requires.captures w c.requires.pattern)
    ∙ ap (λ (v : ℕ). mask_from t.netlist (second_source t v) f gate) same in
    let changes : lane c.launched_in-launched.result at ≡ net_changes t c.args.branch.1 w (pin_at t.netlist c.args.branch.0).net =
    c.launched_in-launched.ensures at (omega arith) ∙ and_same _ (at == at) (eq-eqb at at refl) ∙ ap (net_changes t c.args.branch.1 w) net_is in
    c.show_flip.ensures.shows k lt
    ∙ ap (λ (b : Bool). b && shows) (c.and-lanes.ensures at (omega arith) ∙ ap (λ (b : Bool). b && lane c.branch_mask-flips.result at) changes ∙ ap (λ (b : Bool). net_changes t c.args.branch.1 w (pin_at t.netlist c.args.branch.0).net && b) flips)
    ∙ sym (gate_fails-is t c.circuit-circuit.ensures.fits c.order.result.now (rw c.circuit-circuit.ensures.value at c.order.ensures) w c.args.branch.0 gate found.index c.args.gate.1 c.args.branch.1 k c.requires.pin found.placed found.driven lt)

pub returns-clause-idle : goal.returns-clause-idle
returns-clause-idle g c = λ still.
    let t = c.args.parts.now in
    let w = c.args.pattern in
    let net_is : c.net_of_pin.result ≡ (pin_at t.netlist c.args.branch.0).net = rw c.circuit-circuit.ensures.value at c.net_of_pin.ensures.value in
    c.show_flip.ensures.idle (λ j lt. c.and-lanes.ensures j lt ∙ ap (λ (b : Bool). b && lane c.branch_mask-flips.result j)
    (c.launched_in-launched.ensures j lt ∙ ap (λ (b : Bool). b && (j == w % 512)) (ap (net_changes t c.args.branch.1 w) net_is ∙ still)))
