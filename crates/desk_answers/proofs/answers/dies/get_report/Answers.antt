use Rattle.std.proofs.Common.{◌≡◌, ◌∙◌, ℕ, List, sym, ap, subst}
use Rattle.std.specs.Arc.{arc_value}
use Rattle.scan_model.specs.ReportText.{concatenated}
use Rattle.diagnosis.specs.Designs.{ViewFacts, IsDesign, view_lines}
use Rattle.report_cache.specs.Truth.{IsTrueFor}
use Rattle.desk_replies.specs.declared.status.Status.TheVariants as status
use Rattle.desk_replies.specs.Answers.{plain}
use Rattle.desk_replies.specs.Responses.{response_of}
use Rattle.desk_answers.proofs.KeptReports.{true_after, view_after}
use Rattle.desk_answers.proofs.Gets.{report_got}
use Rattle.desk_answers.proofs.answers.dies.get_report.Goals as goal

pub returns-clause-made : goal.returns-clause-made
returns-clause-made g c =
    let old = g.S.SeatAt.facts c.args.seat.now c.args.desk.now in
    let seen = (g.S.SeatAt.facts c.look_die.new.self c.args.desk.now).seen in
    let grown = c.in-Ok.ensures.did.seen in
    let truth : IsTrueFor c.args.cache.now seen = true_after c.args.cache.now old.seen seen grown c.requires.cache in
    let lines : arc_value c.in_ok-report.report ≡ view_lines c.in-Ok.view = c.in_ok-report.ensures.made seen c.in-Ok.ensures.view truth in
    c.plain.ensures
    ∙ ap (λ (b : List ℕ). response_of (plain status.Ok b)) (c.report-2.ensures ∙ ap concatenated lines)
    ∙ sym (ap response_of (report_got seen c.args.design.now c.args.die.now c.args.revision c.in-Ok.view c.in-Ok.ensures.looked c.in-Ok.ensures.view (subst IsDesign (ap (λ (v : ViewFacts). v.design) c.view.view_is) c.view.invariant.design) c.in-Ok.ensures.design c.in-Ok.ensures.die))

pub returns-in_err-report-clause-cache : goal.returns-in_err-report-clause-cache
returns-in_err-report-clause-cache g c later p t =
    c.report.ensures.stays later (view_after (g.S.SeatAt.facts c.look_die.new.self c.args.desk.now).seen later c.in-Ok.view p c.in-Ok.ensures.view) t

pub returns-clause-cache : goal.returns-clause-cache
returns-clause-cache g c later p t =
    c.report.ensures.stays later (view_after (g.S.SeatAt.facts c.look_die.new.self c.args.desk.now).seen later c.in-Ok.view p c.in-Ok.ensures.view) t
