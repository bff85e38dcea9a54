use Rattle.std.proofs.Common.{◌≡◌, sym, subst, rules}
use Rattle.std.specs.Arc.{arc_value}
use Rattle.std.specs.Prelude.{IfOk}
use Rattle.diagnosis.specs.Designs.{IsView, facts_of}
use Rattle.slat_view.specs.WholeCounts.{IsWholeOf}
use Rattle.report_cache.specs.Truth.{IsTrueFor}
use Rattle.desk_replies.specs.Answers.{Answer}
use Rattle.desk_replies.specs.Responses.{response_of}
use Rattle.desk_answers.proofs.KeptReports.{true_after, view_after}
use Rattle.desk_answers.proofs.Gets.{slat_pattern_got}
use Rattle.desk_answers.proofs.answers.slats.get_slat_pattern.Goals as goal

pub page_of_pattern-requires : goal.page_of_pattern-requires
page_of_pattern-requires g c =
    let old = g.S.SeatAt.facts c.args.seat.now c.args.desk.now in
    let seen = (g.S.SeatAt.facts c.look_die.new.self c.args.desk.now).seen in
    let v = c.in-Ok.view in
    let truth : IsTrueFor c.args.cache.now seen = true_after c.args.cache.now old.seen seen c.in-Ok.ensures.did.seen c.requires.cache in
    let kept : IsWholeOf v.design.test (facts_of v.logs) (arc_value c.in_ok-whole.whole) = c.in_ok-whole.ensures.made seen c.in-Ok.ensures.view truth in
    let whole : IsWholeOf v.design.test (facts_of v.logs) c.deref.result.now = subst (IsWholeOf v.design.test (facts_of v.logs)) (sym c.deref.ensures) kept in
    search (rules, whole)

pub returns-clause-made : goal.returns-clause-made
returns-clause-made g c =
    let seen = (g.S.SeatAt.facts c.look_die.new.self c.args.desk.now).seen in
    let v = c.in-Ok.view in
    let view : IsView v = subst IsView c.view.view_is c.view.invariant in
    subst (λ (a : Answer). IfOk c.page_of_pattern.result (λ r. r ≡ response_of a))
    (sym (slat_pattern_got seen c.args.design.now c.args.die.now c.args.revision v c.in-Ok.ensures.looked c.in-Ok.ensures.view view c.in-Ok.ensures.design c.in-Ok.ensures.die c.args.pattern))
    c.page_of_pattern.ensures

pub returns-in_err-whole-clause-cache : goal.returns-in_err-whole-clause-cache
returns-in_err-whole-clause-cache g c later p t = c.slat.ensures.stays later (view_after (g.S.SeatAt.facts c.look_die.new.self c.args.desk.now).seen later c.in-Ok.view p c.in-Ok.ensures.view) t

pub returns-clause-cache : goal.returns-clause-cache
returns-clause-cache g c later p t = c.slat.ensures.stays later (view_after (g.S.SeatAt.facts c.look_die.new.self c.args.desk.now).seen later c.in-Ok.view p c.in-Ok.ensures.view) t
