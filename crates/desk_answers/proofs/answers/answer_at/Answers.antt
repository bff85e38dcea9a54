use Rattle.std.proofs.Common.{◌≡◌, Ok, true, false, refl, rules}
use Rattle.desk_replies.specs.Methods.{allows}
use Rattle.desk_replies.specs.Answers.{other_method}
use Rattle.desk_replies.specs.Responses.{response_of}
use Rattle.desk_answers.specs.Resources.{methods_of}
use Rattle.desk_answers.specs.BookAnswers.{IsAnswer, IsAnswerAt}
use Rattle.desk_answers.proofs.SeatSteps.{did_nothing}
use Rattle.desk_answers.proofs.ResourceTags.{resource_tags}
use Rattle.desk_answers.proofs.Answered.{asked_as, looked_only, other_method_is, method_is, got_at}
use Rattle.desk_answers.proofs.answers.answer_at.Goals as goal

pub returns-then-not-allows-clause-answered : goal.returns-then-not-allows-clause-answered
returns-then-not-allows-clause-answered g c =
    let s = g.S.SeatAt.facts c.args.seat.now c.args.desk.now in
    let r = c.args.resource.now in
    let asked = c.args.request.now in
    let other : allows (methods_of r) asked.method ≡ false = search rules in
    let made : c.other_method.result ≡ response_of (other_method (methods_of r)) = search rules in
    looked_only (λ deeds answer. IsAnswer s.limit deeds asked.target.now asked.method asked.body.now answer) (other_method (methods_of r)) c.other_method.result s s (did_nothing s)
    (other_method_is s.limit s.seen asked.target.now asked.method asked.body.now r c.requires.named other) refl made

pub get_at-requires-clause-tags : goal.get_at-requires-clause-tags
get_at-requires-clause-tags g c κs within = resource_tags c.args.request.now.target.now c.args.resource.now c.requires.named

pub change_at-requires-clause-tags : goal.change_at-requires-clause-tags
change_at-requires-clause-tags g c κs within = resource_tags c.args.request.now.target.now c.args.resource.now c.requires.named

pub returns-in_ok-get_at-in-Get-clause-answered : goal.returns-in_ok-get_at-in-Get-clause-answered
returns-in_ok-get_at-in-Get-clause-answered g c =
    let s = g.S.SeatAt.facts c.args.seat.now c.args.desk.now in
    let new = g.S.SeatAt.facts c.get_at.new.seat c.args.desk.now in
    let r = c.args.resource.now in
    let asked = c.args.request.now in
    let got = c.in_ok-get_at-in-Get in
    let allowed : allows (methods_of r) asked.method ≡ true = search rules in
    asked_as (λ deeds answer. IsAnswerAt s.limit deeds r asked.method asked.body.now answer) (λ deeds answer. IsAnswer s.limit deeds asked.target.now asked.method asked.body.now answer)
    (Ok got.field-0) s new (λ deeds answer begins at. method_is s.limit deeds asked.target.now asked.method asked.body.now r answer c.requires.named allowed at)
    (got_at s.limit r asked.method asked.body.now got.field-0 s new c.in-Get.is allowed got.ensures.did got.ensures.made)

pub returns-in_default-clause-answered : goal.returns-in_default-clause-answered
returns-in_default-clause-answered g c =
    let s = g.S.SeatAt.facts c.args.seat.now c.args.desk.now in
    let new = g.S.SeatAt.facts c.change_at.new.seat c.args.desk.now in
    let r = c.args.resource.now in
    let asked = c.args.request.now in
    let allowed : allows (methods_of r) asked.method ≡ true = search rules in
    asked_as (λ deeds answer. IsAnswerAt s.limit deeds r asked.method asked.body.now answer) (λ deeds answer. IsAnswer s.limit deeds asked.target.now asked.method asked.body.now answer)
    c.change_at.result s new (λ deeds answer begins at. method_is s.limit deeds asked.target.now asked.method asked.body.now r answer c.requires.named allowed at) c.change_at.ensures.answered
