use Rattle.std.proofs.Common.{◌∙◌, ap, rules}
use Rattle.std.specs.Arc.{arc_value}
use Rattle.text_parts.specs.declared.fault.TextFault.{TextFault}
use Rattle.diagnosis.specs.declared.section.Section.TheVariants as section
use Rattle.desk_replies.specs.declared.bodies.TextKind.TheVariants as kind
use Rattle.desk_replies.specs.Answers.{unprocessable}
use Rattle.desk_answers.specs.RouteAnswers.{log_post}
use Rattle.desk_replies.specs.Responses.{response_of}
use Rattle.desk_answers.proofs.Answered.{after_look_by}
use Rattle.desk_answers.proofs.Puts.{is_posted, posted_in, log_answered, log_unread, log_unfound}
use Rattle.desk_answers.proofs.answers.dies.post_log.Goals as goal

pub returns-in-Err-clause-answered : goal.returns-in-Err-clause-answered
returns-in-Err-clause-answered g c =
    let s = g.S.SeatAt.facts c.args.seat.now c.args.desk.now in
    let mid = g.S.SeatAt.facts c.look_design.new.self c.args.desk.now in
    let made = c.in_ok-refused_look-in-Err in
    log_unfound s.limit c.args.design.now c.args.die.now c.args.text.now c.in-Err.fault made.field-0 s mid c.in-Err.ensures.did c.in-Err.ensures.looked made.ensures.memory made.ensures.answer

pub returns-in-Err-Text-clause-answered : goal.returns-in-Err-Text-clause-answered
returns-in-Err-Text-clause-answered g c =
    let s = g.S.SeatAt.facts c.args.seat.now c.args.desk.now in
    let mid = g.S.SeatAt.facts c.look_design.new.self c.args.desk.now in
    log_unread s.limit c.args.design.now c.args.die.now c.args.text.now (arc_value c.in-Ok.design) c.deref-2.result.now c.in-Err-Text.field-0 c.in-Err-Text.fault c.unprocessable.result s mid
    c.in-Ok.ensures.did c.in-Ok.ensures.looked (search rules) c.deref-2.ensures c.in-Ok.ensures.name c.in-Err-Text.field-0-is c.in-Err-Text.ensures.reading
    (c.unprocessable.ensures ∙ ap (λ (f : TextFault). response_of (unprocessable (kind.Section section.Log) (f.line, f.rule))) c.in-Err-Text.fault-is)

pub put_log-requires-clause-log : goal.put_log-requires-clause-log
put_log-requires-clause-log g c =
    let posted = is_posted (g.S.SeatAt.facts c.look_design.new.self c.args.desk.now).seen c.args.design.now c.args.die.now c.args.text.now (arc_value c.in-Ok.design) c.deref.result.now c.deref-2.result.now c.in-Ok-log_of.log (arc_value c.in-Ok-shared.log)
    c.deref.ensures c.deref-2.ensures c.name-name.ensures.design c.in-Ok.ensures.looked c.in-Ok.ensures.name
    c.in-Ok-log_of.ensures.design c.in-Ok-log_of.ensures.die c.in-Ok-log_of.ensures.text c.in-Ok-log_of.ensures.reading c.in-Ok-shared.ensures in
    posted_in (g.S.SeatAt.facts c.look_design.new.self c.args.desk.now).seen c.args.design.now c.args.die.now c.args.text.now (arc_value c.in-Ok.design) (arc_value c.in-Ok-shared.log) posted

pub returns-clause-answered : goal.returns-clause-answered
returns-clause-answered g c =
    let s = g.S.SeatAt.facts c.args.seat.now c.args.desk.now in
    let mid = g.S.SeatAt.facts c.look_design.new.self c.args.desk.now in
    let new = g.S.SeatAt.facts c.put_log.new.self c.args.desk.now in
    let posted = is_posted (g.S.SeatAt.facts c.look_design.new.self c.args.desk.now).seen c.args.design.now c.args.die.now c.args.text.now (arc_value c.in-Ok.design) c.deref.result.now c.deref-2.result.now c.in-Ok-log_of.log (arc_value c.in-Ok-shared.log)
    c.deref.ensures c.deref-2.ensures c.name-name.ensures.design c.in-Ok.ensures.looked c.in-Ok.ensures.name
    c.in-Ok-log_of.ensures.design c.in-Ok-log_of.ensures.die c.in-Ok-log_of.ensures.text c.in-Ok-log_of.ensures.reading c.in-Ok-shared.ensures in
    after_look_by (λ n deeds. log_post n deeds c.args.design.now c.args.die.now c.args.text.now) c.put_response.result s mid new c.in-Ok.ensures.did
    (log_answered mid.limit c.args.design.now c.args.die.now c.args.text.now (arc_value c.in-Ok.design) (arc_value c.in-Ok-shared.log) c.put_log.result mid new posted c.put_log.ensures.changed
    c.put_response.result c.put_response.ensures)
