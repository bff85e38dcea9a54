use Rattle.std.proofs.Common.{◌≡◌, ℕ, ◌/◌, ◌%◌, ◌&&◌, ap, ◌∙◌, arith}
use Rattle.scan_model.specs.Masks.{flip_shows_from}
use Rattle.lane_rows.specs.Lanes.{lane}
use Rattle.lane_rows.specs.GoodRows.{pattern_of}
use Rattle.lane_rows.specs.Stimuli.{captures}
use Rattle.packed_sim.specs.PackedParts.{observed_at}
use Rattle.frame_rows.specs.Frames.{second_source}
use Rattle.frame_rows.specs.SecondRows.{second_stimuli}
use Rattle.two_frame.proofs.Captures.{captured}
use Rattle.two_frame.proofs.frame_good.FrameGood.show_flip.Goals as goal

pub returns-clause-shows : goal.returns-clause-shows
returns-clause-shows g c k lt =
    let t = c.args.parts.now in
    let w = c.args.pattern in
    let at = w % 512 in
    let same : pattern_of (w / 512) at ≡ w = omega arith in
    c.write_differences.ensures k lt
    ∙ c.flip.ensures.shows_from (second_stimuli t) c.requires.good.second k at lt (omega arith) (ap (captures t) same ∙ captured t c.requires.captures w c.requires.pattern)
    ∙ ap (λ (v : ℕ). lane c.args.lanes at && flip_shows_from t.netlist (second_source t v) c.args.net (observed_at t k)) same
