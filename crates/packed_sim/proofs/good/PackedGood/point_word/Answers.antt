use Rattle.std.proofs.Common.{◌&&◌, ◌+◌, ◌*◌, ◌%◌, ℕ, ltb, length, ap, ◌∙◌}
use Rattle.scan_model.specs.declared.fault.Fault.TheVariants as fault
use Rattle.scan_model.specs.Coverage.{bit_of}
use Rattle.scan_model.specs.Response.{predicts_fail}
use Rattle.packed_sim.proofs.FaultBits.{pattern_is, lane_inside, block_inside}
use Rattle.packed_sim.proofs.good.PackedGood.point_word.Goals as goal

pub predicted_row-row-requires-clause-block : goal.predicted_row-row-requires-clause-block
predicted_row-row-requires-clause-block c = block_inside c.args.parts.now c.args.self.now c.args.word c.requires.good c.requires.word

pub returns : goal.returns
returns c i i_lt =
    let t = c.args.parts.now in
    let word = c.args.word in
    let f = fault.Cell c.args.cell.0 c.args.cell.1 c.args.kind in
    c.word.ensures i i_lt
    ∙ c.predicted_row-row.ensures (64 * (word % 8) + i) (lane_inside word i i_lt)
    ∙ ap (λ (w : ℕ). ltb w (length t.patterns) && predicts_fail t f (bit_of w c.args.k)) (pattern_is word i)
