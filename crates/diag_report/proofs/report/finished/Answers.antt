use Rattle.std.proofs.Common.{List, ℕ, sym, subst}
use Rattle.report_lines.specs.LineEnds.{HasLines}
use Rattle.diag_report.proofs.PageSteps.{cut_is}
use Rattle.diag_report.proofs.report.finished.Goals as goal

pub invariant_of-result : goal.invariant_of-result
invariant_of-result c =
    let d = c.args.draft in
    subst (λ (ls : List (List ℕ)). HasLines ls d.text d.ends) (sym (cut_is c.requires.0 d.text d.ends c.requires.1)) c.requires.1

pub returns : goal.returns
returns c = λ lines has. cut_is lines c.args.draft.text c.args.draft.ends has
