use Rattle.std.proofs.Common.{◌+◌, ◌*◌, ◌/◌, ◌%◌, ◌&&◌, ℕ, List, Bool, ap, ◌∙◌}
use Rattle.lane_rows.specs.Lanes.{lane}
use Rattle.packed_sim.specs.PackedParts.{captures}
use Rattle.packed_sim.proofs.FaultBits.{pattern_is, lane_inside, block_inside}
use Rattle.packed_sim.proofs.good.PackedGood.difference_word.Goals as goal

pub difference-differs-requires-clause-block : goal.difference-differs-requires-clause-block
difference-differs-requires-clause-block c = block_inside c.args.parts.now c.args.self.now c.args.word c.requires.good c.requires.word

pub returns : goal.returns
returns c i i_lt =
    let t = c.args.parts.now in
    let word = c.args.word in
    let b = word / 8 in
    let j = 64 * (word % 8) + i in
    let j_lt = lane_inside word i i_lt in
    c.word.ensures i i_lt
    ∙ c.and-lanes.ensures j j_lt
    ∙ ap (λ (x : Bool). x && lane c.difference-differs.result j) (ap (λ (r : List ℕ). lane r j) c.capture-capture.ensures
    ∙ (c.requires.good.rows.each b (block_inside t c.args.self.now word c.requires.good c.requires.word)).capture j j_lt ∙ ap (captures t) (pattern_is word i))
    ∙ ap (λ (x : Bool). captures t (64 * word + i) && x) (c.difference-differs.ensures j j_lt)
