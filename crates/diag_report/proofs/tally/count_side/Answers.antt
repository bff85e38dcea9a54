use Rattle.std.proofs.Common.{ℕ, ◌+◌, ◌*◌, ◌^◌, ◌<◌, sym, ap, ◌∙◌, arith}
use Rattle.scan_model.specs.Classes.{class_with}
use Rattle.log_rows.specs.PointRows.{is_on, is_on_at}
use Rattle.diag_report.proofs.TallySteps.{count_none, count_next, few_ones}
use Rattle.diag_report.proofs.tally.count_side.Goals as goal

pub loop-point-init : goal.loop-point-init
loop-point-init c = record {
  count = λ logs stands. sym (count_none (λ b. is_on c.args.side (class_with c.args.expected.now logs b)) c.args.joined.now.patterns c.args.word);
  few = omega arith;
}

pub loop-point-preserved : goal.loop-point-preserved
loop-point-preserved c =
    let n = c.side_word-bits.result in
    let fits : n < 2 ^ 64 = omega arith in
    record {
      count = λ logs stands.
          omega (
            arith,
            c.loop-point.invariant.count logs stands,
            c.from-count.ensures,
            count_next (λ b. is_on c.args.side (class_with c.args.expected.now logs b)) c.args.joined.now.patterns c.args.word c.loop-point.point n fits
                (λ i lt. c.side_word-bits.ensures logs stands i lt ∙ ap (λ (m : ℕ). is_on_at logs c.args.expected.now m c.args.side (64 * c.args.word + i) c.loop-point.point) c.requires.patterns),
          );
      few = omega (arith, c.loop-point.invariant.few, few_ones n fits, c.from-count.ensures);
    }
