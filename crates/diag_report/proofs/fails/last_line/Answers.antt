use Rattle.std.specs.Prelude.{codes}
use Rattle.report_lines.proofs.LineSteps.{line_ended}
use Rattle.diag_report.proofs.fails.last_line.Goals as goal

pub returns : goal.returns
returns c =
    line_ended c.end_line.result c.args.draft.now c.end_line.new.draft c.append.new.self (codes "end") c.in_ok-append.ensures.ok c.end_line.ensures.text c.end_line.ensures.ends
