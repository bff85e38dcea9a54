use Rattle.std.proofs.Common.{sym, ap, length, ◌∙◌}
use Rattle.diag_report.proofs.PageSteps.{length-cut_at}
use Rattle.diag_report.proofs.report.Report.lines.Goals as goal

pub returns : goal.returns
returns c = c.len.ensures ∙ sym (length-cut_at 0 c.self.inside.ends c.self.inside.text) ∙ ap length c.self.view_is
