use Rattle.std.proofs.Common.{◌++◌, List, map, subst, ap, ◌∙◌, ◌≡◌}
use Rattle.scan_model.specs.declared.parts.Pair.{Pair}
use Rattle.scan_model.specs.declared.parts.Pairs.{Pairs}
use Rattle.report_lines.specs.LineEnds.{AddsLines}
use Rattle.diag_report.specs.Summary.{circuit_lines, test_lines, left_out_line, summary_lines}
use Rattle.report_lines.proofs.LineSteps.{both_added}
use Rattle.diag_report.proofs.SummarySteps.{text_written}
use Rattle.diag_report.proofs.summary.summary_text.Goals as goal

pub returns : goal.returns
returns c =
    let t = c.args.parts.now in
    let start = c.new_draft-draft.result in
    let d1 = c.circuit_counts.new.draft in
    let d2 = c.test_counts.new.draft in
    let d3 = c.left_out_lines.new.draft in
    let left_out = map (left_out_line t) t.pairs.left_out in
    let same : c.as_slice.result.now ≡ t.pairs.left_out = c.as_slice.ensures ∙ ap (λ (p : Pairs). p.left_out) c.pairs.ensures.value in
    let third : AddsLines left_out d2 d3 = subst (λ (ps : List Pair). AddsLines (map (left_out_line t) ps) d2 d3) same c.in_ok-left_out_lines.ensures in
    text_written (summary_lines t) start d3 c.new_draft-draft.ensures.text c.new_draft-draft.ensures.ends
    (both_added (circuit_lines t) (test_lines t ++ left_out) start d1 d3 c.in_ok-circuit_counts.ensures (both_added (test_lines t) left_out d1 d2 d3 c.in_ok-test_counts.ensures third))
