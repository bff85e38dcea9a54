use Rattle.std.proofs.Common.{◌≡◌, ◌∙◌, ℕ, List, length, sym, ap, ap₂, subst}
use Rattle.std.specs.Arc.{arc_value}
use Rattle.std.proofs.lemmas.List.{length-map}
use Rattle.scan_model.specs.ReportText.{concatenated}
use Rattle.diagnosis.specs.Designs.{ReadLogFacts, IsView, facts_of}
use Rattle.slat_view.specs.declared.slat.SlatCount.{SlatCount}
use Rattle.slat_view.specs.SlatText.{count_lines, slat_text}
use Rattle.slat_view.specs.WholeCounts.{IsWholeOf}
use Rattle.report_cache.specs.Truth.{IsTrueFor}
use Rattle.desk_replies.specs.declared.status.Status.TheVariants as status
use Rattle.desk_replies.specs.Answers.{plain}
use Rattle.desk_replies.specs.Responses.{response_of}
use Rattle.desk_answers.proofs.KeptReports.{true_after, view_after}
use Rattle.desk_answers.proofs.Gets.{slat_got}
use Rattle.desk_answers.proofs.answers.slats.get_slat.Goals as goal

pub returns-clause-made : goal.returns-clause-made
returns-clause-made g c =
    let old = g.S.SeatAt.facts c.args.seat.now c.args.desk.now in
    let seen = (g.S.SeatAt.facts c.look_die.new.self c.args.desk.now).seen in
    let v = c.in-Ok.view in
    let design = c.args.design.now in
    let die = c.args.die.now in
    let logs = facts_of v.logs in
    let truth : IsTrueFor c.args.cache.now seen = true_after c.args.cache.now old.seen seen c.in-Ok.ensures.did.seen c.requires.cache in
    let kept : IsWholeOf v.design.test logs (arc_value c.in_ok-whole.whole) = c.in_ok-whole.ensures.made seen c.in-Ok.ensures.view truth in
    let whole : IsWholeOf v.design.test logs c.deref.result.now = subst (IsWholeOf v.design.test logs) (sym c.deref.ensures) kept in
    let slat = c.deref.result.now.slat in
    let view : IsView v = subst IsView c.view.view_is c.view.invariant in
    let count : c.revision.result ≡ length logs = c.revision.ensures.number ∙ sym (length-map v.logs (λ (log : ReadLogFacts). log.facts)) in
    let text : c.in_ok-text.text ≡ slat_text v.design.test design die logs =
    c.in_ok-text.ensures
    ∙ ap (λ (n : ℕ). concatenated (count_lines design die n slat.failing slat.rows)) count
    ∙ ap₂ (λ (n : ℕ) (rows : List SlatCount). concatenated (count_lines design die (length logs) n rows)) whole.failing whole.rows in
    c.plain.ensures
    ∙ ap (λ (b : List ℕ). response_of (plain status.Ok b)) (c.text.ensures ∙ text)
    ∙ sym (ap response_of (slat_got seen design die c.args.revision v c.in-Ok.ensures.looked c.in-Ok.ensures.view view c.in-Ok.ensures.design c.in-Ok.ensures.die))

pub returns-in_err-whole-clause-cache : goal.returns-in_err-whole-clause-cache
returns-in_err-whole-clause-cache g c later p t = c.slat.ensures.stays later (view_after (g.S.SeatAt.facts c.look_die.new.self c.args.desk.now).seen later c.in-Ok.view p c.in-Ok.ensures.view) t

pub returns-in_err-text-clause-cache : goal.returns-in_err-text-clause-cache
returns-in_err-text-clause-cache g c later p t = c.slat.ensures.stays later (view_after (g.S.SeatAt.facts c.look_die.new.self c.args.desk.now).seen later c.in-Ok.view p c.in-Ok.ensures.view) t

pub returns-clause-cache : goal.returns-clause-cache
returns-clause-cache g c later p t = c.slat.ensures.stays later (view_after (g.S.SeatAt.facts c.look_die.new.self c.args.desk.now).seen later c.in-Ok.view p c.in-Ok.ensures.view) t
