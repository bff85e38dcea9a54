use Rattle.scan_model.specs.ReportText.{spaced}
use Rattle.diag_report.specs.Summary.{left_out_words}
use Rattle.report_lines.proofs.LineSteps.{line_ended}
use Rattle.diag_report.proofs.summary.left_out_line.Goals as goal

pub returns : goal.returns
returns c =
    line_ended c.end_line.result c.args.draft.now c.end_line.new.draft c.push_left_out.new.line (spaced (left_out_words c.args.parts.now c.args.pair.now)) c.in_ok-push_left_out.ensures c.end_line.ensures.text c.end_line.ensures.ends
