use Rattle.std.proofs.Common.{◌+◌, ◌/◌, arith}
use Rattle.diag_report.proofs.PageSteps.{pages_are}
use Rattle.diag_report.proofs.report.Report.pages.Goals as goal

pub returns-then-lines-eq0-clause-whole : goal.returns-then-lines-eq0-clause-whole
returns-then-lines-eq0-clause-whole c = pages_are c.args.self.now (c.lines-lines.result / 100) (omega arith)

pub returns-else-lines-eq0-clause-whole : goal.returns-else-lines-eq0-clause-whole
returns-else-lines-eq0-clause-whole c = pages_are c.args.self.now (c.lines-lines.result / 100 + 1) (omega arith)
