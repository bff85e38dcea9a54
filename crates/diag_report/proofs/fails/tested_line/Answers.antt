use Rattle.scan_model.specs.ReportText.{spaced}
use Rattle.diag_report.specs.PredictedLog.{tested_words}
use Rattle.report_lines.proofs.LineSteps.{line_ended}
use Rattle.diag_report.proofs.fails.tested_line.Goals as goal

pub returns : goal.returns
returns c =
    line_ended c.end_line.result c.args.draft.now c.end_line.new.draft c.push_tested.new.line (spaced (tested_words c.args.last)) c.in_ok-push_tested.ensures c.end_line.ensures.text c.end_line.ensures.ends
