use Rattle.std.proofs.Common.{◌≡◌, ◌+◌, map, take, get_or, sym, subst, ◌∙◌}
use Rattle.scan_model.specs.Coverage.{bit_of}
use Rattle.scan_model.specs.Response.{predicts_fail}
use Rattle.report_lines.specs.declared.draft.Draft.{Draft}
use Rattle.report_lines.specs.LineEnds.{AddsLines}
use Rattle.diag_report.specs.PredictedLog.{fail_lines}
use Rattle.diag_report.proofs.FailSteps.{bit_tells, bit_listed, bit_skipped}
use Rattle.diag_report.proofs.fails.pattern_fails.Goals.{then-has_bit+in_ok-bit_line, else-has_bit}
use Rattle.diag_report.proofs.fails.pattern_fails.Goals as goal

pub loop-i-preserved : goal.loop-i-preserved
loop-i-preserved c = λ f are.
    let t = c.args.parts.now in
    let w = c.args.pattern in
    let points = c.args.points.now in
    let i = c.loop-i.i in
    let start = c.args.draft.now in
    let k = get_or points i 0 in
    let is : c.has_bit.result ≡ predicts_fail t f (bit_of w k) = c.has_bit.ensures ∙ bit_tells t f w k c.args.fails.now _ (c.requires.points i 0 c.loop-i-test.true) c.requires.pattern c.requires.fails are in
    elim c.if-has_bit.branch [
      | then-has_bit+in_ok-bit_line b ↦
          subst (λ (d : Draft). AddsLines (fail_lines t f (map (bit_of w) (take (i + 1) points))) start d) (sym b.draft-is)
          (bit_listed t f w points i 0 start c.loop-i.draft b.bit_line.new.draft c.loop-i-test.true (sym is ∙ b.if-has_bit.true) (c.loop-i.invariant f are) b.in_ok-bit_line.ensures)
      | else-has_bit b ↦
          subst (λ (d : Draft). AddsLines (fail_lines t f (map (bit_of w) (take (i + 1) points))) start d) (sym b.draft-is)
          (bit_skipped t f w points i 0 start c.loop-i.draft c.loop-i-test.true (sym is ∙ b.if-has_bit.false) (c.loop-i.invariant f are))
    ]
