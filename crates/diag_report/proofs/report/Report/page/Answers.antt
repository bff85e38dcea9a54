use Rattle.std.proofs.Common.{◌≡◌, ◌-◌, length, min, ap, refl, ◌∙◌, arith}
use Rattle.scan_model.specs.ReportText.{concatenated}
use Rattle.diag_report.proofs.PageSteps.{front_bounds, page_cut}
use Rattle.diag_report.proofs.report.Report.page.Goals as goal

pub piece-requires-clause-start : goal.piece-requires-clause-start
piece-requires-clause-start c =
    let bounds = front_bounds c.args.self.now (c.args.from - 1) c.min-count.result in
    omega (arith, bounds.0, c.end_of-start.ensures, c.end_of-end.ensures)

pub piece-requires-clause-end : goal.piece-requires-clause-end
piece-requires-clause-end c =
    let bounds = front_bounds c.args.self.now (c.args.from - 1) c.min-count.result in
    let whole : c.as_slice.result.now ≡ concatenated c.args.self.now = c.as_slice.ensures ∙ c.self.invariant.text_is ∙ ap concatenated c.self.view_is in
    omega (arith, bounds.1, c.end_of-end.ensures, ap length whole)

pub returns-clause-page : goal.returns-clause-page
returns-clause-page c =
    let lines = c.args.self.now in
    let whole : c.as_slice.result.now ≡ concatenated lines = c.as_slice.ensures ∙ c.self.invariant.text_is ∙ ap concatenated c.self.view_is in
    let count : c.min-count.result ≡ min 100 (length lines - (c.args.from - 1)) = c.min-count.ensures ∙ rw c.lines-lines.ensures refl in
    c.piece.ensures ∙ rw (c.end_of-end.ensures, c.end_of-start.ensures, whole) (page_cut lines (c.args.from - 1) c.min-count.result count)
