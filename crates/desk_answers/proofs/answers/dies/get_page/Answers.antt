use Rattle.std.proofs.Common.{◌≡◌, ◌∙◌, ℕ, List, IfOk, sym, ap, subst}
use Rattle.std.specs.Arc.{arc_value}
use Rattle.diagnosis.specs.Designs.{ViewFacts, IsDesign, view_lines}
use Rattle.report_cache.specs.Truth.{IsTrueFor}
use Rattle.desk_replies.specs.Answers.{Answer}
use Rattle.desk_replies.specs.Responses.{response_of}
use Rattle.desk_answers.specs.RouteAnswers.{page_get, page_of_lines}
use Rattle.desk_answers.proofs.KeptReports.{true_after, view_after}
use Rattle.desk_answers.proofs.Gets.{lines_got}
use Rattle.desk_answers.proofs.answers.dies.get_page.Goals as goal

pub returns-clause-made : goal.returns-clause-made
returns-clause-made g c =
    let old = g.S.SeatAt.facts c.args.seat.now c.args.desk.now in
    let seen = (g.S.SeatAt.facts c.look_die.new.self c.args.desk.now).seen in
    let truth : IsTrueFor c.args.cache.now seen = true_after c.args.cache.now old.seen seen c.in-Ok.ensures.did.seen c.requires.cache in
    let lines : arc_value c.in_ok-report.report ≡ view_lines c.in-Ok.view = c.in_ok-report.ensures.made seen c.in-Ok.ensures.view truth in
    let behind : c.report-2.result.now ≡ view_lines c.in-Ok.view = c.report-2.ensures ∙ (c.deref.ensures ∙ lines) in
    let same : page_of_lines c.report-2.result.now c.args.line ≡ page_get seen c.args.design.now c.args.die.now c.args.revision c.args.line =
    ap (λ (ls : List (List ℕ)). page_of_lines ls c.args.line) behind
    ∙ sym (lines_got seen c.args.design.now c.args.die.now c.args.revision c.args.line c.in-Ok.view c.in-Ok.ensures.looked c.in-Ok.ensures.view (subst IsDesign (ap (λ (v : ViewFacts). v.design) c.view.view_is) c.view.invariant.design)
    c.in-Ok.ensures.design c.in-Ok.ensures.die) in
    subst (λ (a : Answer). IfOk c.page_at.result (λ r. r ≡ response_of a)) same c.page_at.ensures

pub returns-in_err-report-clause-cache : goal.returns-in_err-report-clause-cache
returns-in_err-report-clause-cache g c later p t =
    c.report.ensures.stays later (view_after (g.S.SeatAt.facts c.look_die.new.self c.args.desk.now).seen later c.in-Ok.view p c.in-Ok.ensures.view) t

pub returns-clause-cache : goal.returns-clause-cache
returns-clause-cache g c later p t =
    c.report.ensures.stays later (view_after (g.S.SeatAt.facts c.look_die.new.self c.args.desk.now).seen later c.in-Ok.view p c.in-Ok.ensures.view) t
