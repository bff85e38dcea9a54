use Rattle.std.proofs.Common.{◌≡◌, true, refl, sym, subst}
use Rattle.desk_replies.specs.Methods.{allows}
use Rattle.desk_answers.specs.declared.routes.resource.Resource.{Resource}
use Rattle.desk_answers.specs.declared.routes.resource.Resource.TheVariants as resource
use Rattle.desk_answers.specs.Resources.{methods_of}
use Rattle.desk_answers.specs.RouteAnswers.{design_put, log_post}
use Rattle.desk_answers.specs.BookAnswers.{Answered, AnsweredBy, IsAnswerAt}
use Rattle.desk_answers.proofs.Answered.{at_resource, at_signs, design_is_put, none_changed}
use Rattle.desk_answers.proofs.answers.change_at.Goals as goal

pub returns-in-Design-clause-answered : goal.returns-in-Design-clause-answered
returns-in-Design-clause-answered g c =
    let s = g.S.SeatAt.facts c.args.seat.now c.args.desk.now in
    let new = g.S.SeatAt.facts c.put_design.new.seat c.args.desk.now in
    let asked = c.args.request.now in
    let design = c.in-Design.design in
    let put : AnsweredBy (λ deeds. design_put s.limit deeds design asked.body.now) c.put_design.result s new = rw c.as_slice.ensures at c.put_design.ensures.answered in
    let allowed = subst (λ (r : Resource). allows (methods_of r) asked.method ≡ true) c.in-Design.is c.requires.allowed in
    subst (λ (r : Resource). Answered (λ deeds answer. IsAnswerAt s.limit deeds r asked.method asked.body.now answer) c.put_design.result s new) (sym c.in-Design.is)
    (at_resource s.limit (resource.Design design) asked.method asked.body.now s new (λ deeds. design_put s.limit deeds design asked.body.now) c.put_design.result refl
    (λ deeds. design_is_put s.limit deeds design asked.method asked.body.now allowed c.requires.changes) put)

pub returns-in-Logs-clause-answered : goal.returns-in-Logs-clause-answered
returns-in-Logs-clause-answered g c =
    let s = g.S.SeatAt.facts c.args.seat.now c.args.desk.now in
    let new = g.S.SeatAt.facts c.post_log.new.seat c.args.desk.now in
    let asked = c.args.request.now in
    let design = c.in-Logs.design in
    let die = c.in-Logs.die in
    let posted : AnsweredBy (λ deeds. log_post s.limit deeds design die asked.body.now) c.post_log.result s new = rw (c.as_slice-design.ensures, c.as_slice-die.ensures) at c.post_log.ensures.answered in
    subst (λ (r : Resource). Answered (λ deeds answer. IsAnswerAt s.limit deeds r asked.method asked.body.now answer) c.post_log.result s new) (sym c.in-Logs.is)
    (at_resource s.limit (resource.Logs design die) asked.method asked.body.now s new (λ deeds. log_post s.limit deeds design die asked.body.now) c.post_log.result refl (λ deeds. refl) posted)

pub returns-in-Signs-clause-answered : goal.returns-in-Signs-clause-answered
returns-in-Signs-clause-answered g c =
    let s = g.S.SeatAt.facts c.args.seat.now c.args.desk.now in
    let new = g.S.SeatAt.facts c.post_sign.new.seat c.args.desk.now in
    let asked = c.args.request.now in
    let design = c.in-Signs.design in
    let die = c.in-Signs.die in
    subst (λ (r : Resource). Answered (λ deeds answer. IsAnswerAt s.limit deeds r asked.method asked.body.now answer) c.post_sign.result s new) (sym c.in-Signs.is)
    (at_signs s.limit design die asked.method asked.body.now s new c.post_sign.result (rw (c.as_slice-design-in-Signs.ensures, c.as_slice-die-in-Signs.ensures) at c.post_sign.ensures.answered))

pub unreachable-requires : goal.unreachable-requires
unreachable-requires g c =
    let other = c.in_default in
    none_changed c.args.resource.now c.args.request.now.method c.requires.allowed c.requires.changes other.not-Design other.not-Logs other.not-Signs
