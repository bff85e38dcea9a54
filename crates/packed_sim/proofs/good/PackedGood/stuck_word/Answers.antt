use Rattle.std.proofs.Common.{◌+◌, ◌*◌, ◌/◌, ◌%◌, ◌&&◌, ℕ, List, Bool, ap, ◌∙◌}
use Rattle.scan_model.specs.Values.{are_opposite}
use Rattle.scan_model.specs.Faults.{stuck_value}
use Rattle.scan_model.specs.NetValue.{good_value}
use Rattle.lane_rows.specs.Lanes.{lane}
use Rattle.packed_sim.specs.PackedParts.{captures}
use Rattle.packed_sim.proofs.FaultBits.{pattern_is, lane_inside, block_inside, and_when}
use Rattle.packed_sim.proofs.good.PackedGood.stuck_word.Goals as goal

pub stuck_mask-opposite-requires-clause-block : goal.stuck_mask-opposite-requires-clause-block
stuck_mask-opposite-requires-clause-block c = block_inside c.args.parts.now c.args.self.now c.args.word c.requires.good c.requires.word

pub returns : goal.returns
returns c i i_lt =
    let t = c.args.parts.now in
    let word = c.args.word in
    let b = word / 8 in
    let j = 64 * (word % 8) + i in
    let j_lt = lane_inside word i i_lt in
    c.word.ensures i i_lt
    ∙ c.and-lanes.ensures j j_lt
    ∙ ap (λ (x : Bool). x && lane c.stuck_mask-opposite.result j) (ap (λ (r : List ℕ). lane r j) c.capture-capture.ensures
    ∙ (c.requires.good.rows.each b (block_inside t c.args.self.now word c.requires.good c.requires.word)).capture j j_lt ∙ ap (captures t) (pattern_is word i))
    ∙ and_when (captures t (64 * word + i)) (lane c.stuck_mask-opposite.result j) (are_opposite (good_value t (64 * word + i) c.args.net) (stuck_value c.args.value))
    (λ captured. c.stuck_mask-opposite.ensures.good c.requires.good j j_lt (ap (captures t) (pattern_is word i) ∙ captured) ∙ ap (λ (w : ℕ). are_opposite (good_value t w c.args.net) (stuck_value c.args.value)) (pattern_is word i))
