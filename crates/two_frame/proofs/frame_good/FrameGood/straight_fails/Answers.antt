use Rattle.std.proofs.Common.{◌≡◌, ◌%◌, ◌==◌, Bool, ◌&&◌, refl, sym, ap, ◌∙◌, arith}
use Rattle.std.proofs.lemmas.Bool.{eq-eqb}
use Rattle.scan_model.specs.Netlist.{pin_at}
use Rattle.scan_model.specs.ScanTest.{point_at}
use Rattle.scan_model.specs.Masks.{place_is_point}
use Rattle.frame_rows.specs.Frames.{net_changes}
use Rattle.two_frame.proofs.ShownFails.{and_same, pin_fails-is}
use Rattle.two_frame.proofs.frame_good.FrameGood.straight_fails.Goals as goal

pub returns : goal.returns
returns c k lt =
    let t = c.args.parts.now in
    let w = c.args.pattern in
    let at = w % 512 in
    let pin = c.args.branch.0 in
    let v = c.args.branch.1 in
    let net_is : c.net_of_pin.result ≡ (pin_at t.netlist pin).net = rw c.circuit-circuit.ensures.value at c.net_of_pin.ensures.value in
    let changes : c.has-changes.result ≡ net_changes t v w (pin_at t.netlist pin).net =
    c.has-changes.ensures ∙ c.launched_in-launched.ensures at (omega arith) ∙ and_same _ (at == at) (eq-eqb at at refl) ∙ ap (net_changes t v w) net_is in
    c.loop-k.invariant.so_far k (omega (arith, c.loop-k-test.false, c.requires.out, lt))
    ∙ ap (λ (b : Bool). b && place_is_point t (pin_at t.netlist pin).place (point_at t k)) changes
    ∙ sym (pin_fails-is t c.circuit-circuit.ensures.fits c.order.result.now (rw c.circuit-circuit.ensures.value at c.order.ensures) w pin v k c.requires.pin c.requires.straight lt)
