use Rattle.std.proofs.Common.{◌≡◌, ◌∙◌, None, refl}
use Rattle.desk_replies.specs.declared.bodies.Refusal.TheVariants as refusal
use Rattle.desk_replies.specs.Answers.{refused}
use Rattle.desk_answers.specs.Resources.{resource_of}
use Rattle.desk_answers.specs.BookAnswers.{IsAnswer}
use Rattle.desk_answers.proofs.SeatSteps.{did_nothing}
use Rattle.desk_answers.proofs.Answered.{looked_only, no_route_is}
use Rattle.desk_answers.proofs.answers.answer_found.Goals as goal

pub returns-in-None-clause-answered : goal.returns-in-None-clause-answered
returns-in-None-clause-answered g c =
    let s = g.S.SeatAt.facts c.args.seat.now c.args.desk.now in
    let asked = c.args.request.now in
    let none : resource_of asked.target.now ≡ None = c.requires.found ∙ c.in-None.is in
    looked_only (λ deeds answer. IsAnswer s.limit deeds asked.target.now asked.method asked.body.now answer) (refused refusal.NoRoute) c.refused.result s s (did_nothing s)
    (no_route_is s.limit s.seen asked.target.now asked.method asked.body.now none) refl c.refused.ensures

pub answer_at-requires-clause-named : goal.answer_at-requires-clause-named
answer_at-requires-clause-named g c κs within = c.requires.found ∙ c.in-Some.is
