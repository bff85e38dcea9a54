use Rattle.std.proofs.Common.{List, ℕ, length, get_or, ◌-◌, ap, subst, ◌∙◌, arith}
use Rattle.report_lines.specs.LineEnds.{HasLines}
use Rattle.diag_report.proofs.PageSteps.{length-cut_at, end_is}
use Rattle.diag_report.proofs.report.Report.end_of.Goals as goal

pub end_behind-requires : goal.end_behind-requires
end_behind-requires c = omega (arith, ap length c.as_slice.ensures, length-cut_at 0 c.self.inside.ends c.self.inside.text, ap length c.self.view_is)

pub returns : goal.returns
returns c =
    let r = c.self.inside in
    let has = subst (λ (ls : List (List ℕ)). HasLines ls r.text r.ends) c.self.view_is c.self.invariant in
    end_is c.args.self.now r.text r.ends c.args.lines c.end_behind.result has c.requires c.end_behind.ensures.none
    (λ lt. c.end_behind.ensures.some lt ∙ ap (λ (xs : List ℕ). get_or xs (c.args.lines - 1) 0) c.as_slice.ensures)
