use Rattle.std.proofs.Common.{ℕ, ◌+◌, ◌*◌, ap, ◌∙◌, arith}
use Rattle.std.proofs.lemmas.List.{length-set}
use Rattle.log_rows.specs.PointRows.{is_on_at}
use Rattle.log_rows.proofs.SideRows.{lanes_more}
use Rattle.log_rows.proofs.sides.side_row.Goals as goal

pub loop-at-preserved : goal.loop-at-preserved
loop-at-preserved c =
    let at = c.loop-at.at in
    let b = c.args.block in
    record {
      len = simp length-set c.loop-at.invariant.len;
      lanes = λ logs stands.
          let f = λ (j : ℕ). is_on_at logs c.args.expected.now c.args.patterns c.args.side (512 * b + j) c.args.point in
          lanes_more f c.loop-at.words at c.side_word.result (omega (arith, c.loop-at.invariant.len)) (c.loop-at.invariant.lanes logs stands)
          (λ i lt. c.side_word.ensures logs stands i lt ∙ ap (λ (w : ℕ). is_on_at logs c.args.expected.now c.args.patterns c.args.side w c.args.point) (omega arith));
    }
