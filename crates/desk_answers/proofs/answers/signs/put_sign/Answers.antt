use Rattle.std.proofs.Common.{◌≡◌, ◌∙◌, List, ℕ, Some, ap}
use Rattle.std.specs.Arc.{arc_value}
use Rattle.sha2.specs.Sha256.{sha256}
use Rattle.scan_model.specs.ReportText.{concatenated}
use Rattle.diagnosis.specs.Designs.{view_lines}
use Rattle.report_cache.specs.Truth.{IsTrueFor}
use Rattle.desk_answers.specs.RouteAnswers.{sign_post}
use Rattle.desk_answers.proofs.SeatSteps.{prefix_on}
use Rattle.desk_answers.proofs.Answered.{after_look_by}
use Rattle.desk_answers.proofs.KeptReports.{true_after, view_after}
use Rattle.desk_answers.proofs.PutSigns.{view_length, is_found_die, sign_answered, sign_unfound}
use Rattle.desk_answers.proofs.answers.signs.put_sign.Goals as goal

pub returns-in-Err-clause-answered : goal.returns-in-Err-clause-answered
returns-in-Err-clause-answered g c =
    let s = g.S.SeatAt.facts c.args.seat.now c.args.desk.now in
    let mid = g.S.SeatAt.facts c.look_die.new.self c.args.desk.now in
    let made = c.in_ok-refused_look-in-Err in
    sign_unfound s.limit c.args.design.now c.args.die.now c.args.sign.now c.in-Err.fault made.field-0 s mid c.in-Err.ensures.did c.in-Err.ensures.looked made.ensures.memory made.ensures.answer

pub by_digest-checked-requires-clause-some : goal.by_digest-checked-requires-clause-some
by_digest-checked-requires-clause-some g c =
    (view_length (g.S.SeatAt.facts c.look_die.new.self c.args.desk.now).seen c.args.design.now c.args.die.now c.args.sign.now.revision c.in-Ok.view c.in-Ok.ensures.looked).0

pub by_digest-checked-requires-clause-digest : goal.by_digest-checked-requires-clause-digest
by_digest-checked-requires-clause-digest g c =
    let old = g.S.SeatAt.facts c.args.seat.now c.args.desk.now in
    let seen = (g.S.SeatAt.facts c.look_die.new.self c.args.desk.now).seen in
    let truth : IsTrueFor c.args.cache.now seen = true_after c.args.cache.now old.seen seen c.in-Ok.ensures.did.seen c.requires.cache in
    let lines : arc_value c.in_ok-report.report ≡ view_lines c.in-Ok.view = c.in_ok-report.ensures.made seen c.in-Ok.ensures.view truth in
    c.digest.ensures ∙ ap (λ (ls : List (List ℕ)). sha256 (concatenated ls)) (c.deref.ensures ∙ lines)

pub returns-clause-answered : goal.returns-clause-answered
returns-clause-answered g c =
    let s = g.S.SeatAt.facts c.args.seat.now c.args.desk.now in
    let mid = g.S.SeatAt.facts c.look_die.new.self c.args.desk.now in
    let new = g.S.SeatAt.facts c.sign.new.self c.args.desk.now in
    let found = is_found_die mid.seen c.args.design.now c.args.die.now c.args.sign.now.revision c.in-Ok.view c.by_digest-checked.result c.by_digest-checked.ensures
    c.in-Ok.ensures.looked c.in-Ok.ensures.view c.revision-revision.ensures.view c.in-Ok.ensures.design c.in-Ok.ensures.die in
    after_look_by (λ n deeds. sign_post n deeds c.args.design.now c.args.die.now (Some c.args.sign.now)) c.put_response.result s mid new c.in-Ok.ensures.did
    (sign_answered mid.limit c.args.design.now c.args.die.now c.args.sign.now c.by_digest-checked.result c.sign.result mid new found c.sign.ensures.changed
    c.put_response.result c.put_response.ensures)

pub returns-in_err-report-clause-cache : goal.returns-in_err-report-clause-cache
returns-in_err-report-clause-cache g c later p t =
    c.report.ensures.stays later (view_after (g.S.SeatAt.facts c.look_die.new.self c.args.desk.now).seen later c.in-Ok.view p c.in-Ok.ensures.view) t

pub returns-clause-cache : goal.returns-clause-cache
returns-clause-cache g c later p t =
    let mid = (g.S.SeatAt.facts c.look_die.new.self c.args.desk.now).seen in
    let new = (g.S.SeatAt.facts c.sign.new.self c.args.desk.now).seen in
    c.report.ensures.stays later (view_after mid later c.in-Ok.view (prefix_on mid new later c.sign.ensures.changed.did.seen p) c.in-Ok.ensures.view) t
