use Rattle.std.proofs.Common.{◌%◌, ◌==◌, Bool, ◌&&◌, refl, sym, ap, ◌∙◌, arith}
use Rattle.std.proofs.lemmas.Bool.{eq-eqb}
use Rattle.scan_model.specs.Masks.{flip_shows_from}
use Rattle.packed_sim.specs.PackedParts.{observed_at}
use Rattle.frame_rows.specs.Frames.{second_source}
use Rattle.two_frame.proofs.ShownFails.{and_same, stem_fails-is}
use Rattle.two_frame.proofs.frame_good.FrameGood.stem_fails.Goals as goal

pub returns-clause-fails : goal.returns-clause-fails
returns-clause-fails g c k lt =
    let t = c.args.parts.now in
    let w = c.args.pattern in
    let at = w % 512 in
    let shows = flip_shows_from t.netlist (second_source t w) c.args.stem.0 (observed_at t k) in
    c.show_flip.ensures.shows k lt
    ∙ ap (λ (b : Bool). b && shows) (c.launched_in-lanes.ensures at (omega arith) ∙ and_same _ (at == at) (eq-eqb at at refl))
    ∙ sym (stem_fails-is t c.circuit.ensures.fits c.order.result.now (rw c.circuit.ensures.value at c.order.ensures) w c.args.stem.0 c.args.stem.1 k c.requires.stem lt)

pub returns-clause-idle : goal.returns-clause-idle
returns-clause-idle g c = λ still. c.show_flip.ensures.idle (λ j lt. c.launched_in-lanes.ensures j lt ∙ ap (λ (b : Bool). b && (j == c.args.pattern % 512)) still)
