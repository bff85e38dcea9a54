use Rattle.std.proofs.Common.{◌≡◌, Option, Some, None, refl}
use Rattle.scan_model.specs.declared.rules.TheConstants.{NOT_A_SIGN}
use Rattle.desk_replies.specs.declared.bodies.TextKind.TheVariants as kind
use Rattle.die_entries.specs.declared.sign.Sign.{Sign}
use Rattle.desk_replies.specs.Answers.{unprocessable}
use Rattle.desk_answers.specs.RouteAnswers.{sign_post}
use Rattle.desk_answers.specs.BookAnswers.{ReadsSign}
use Rattle.desk_answers.proofs.SeatSteps.{did_nothing}
use Rattle.desk_answers.proofs.Answered.{asked_as, looked_only}
use Rattle.desk_answers.proofs.answers.signs.post_sign.Goals as goal

pub returns-in-Ok-clause-answered : goal.returns-in-Ok-clause-answered
returns-in-Ok-clause-answered g c =
    let s = g.S.SeatAt.facts c.args.seat.now c.args.desk.now in
    asked_as (λ deeds answer. answer ≡ sign_post s.limit deeds c.args.design.now c.args.die.now (Some c.in-Ok.sign))
    (λ deeds answer. (sign : Option Sign) × ReadsSign c.args.body.now sign × (answer ≡ sign_post s.limit deeds c.args.design.now c.args.die.now sign))
    c.put_sign.result s (g.S.SeatAt.facts c.put_sign.new.seat c.args.desk.now) (λ deeds answer begins said. (Some c.in-Ok.sign, c.in-Ok.ensures.sign, said)) c.put_sign.ensures.answered

pub returns-in-Err-NotASign-clause-answered : goal.returns-in-Err-NotASign-clause-answered
returns-in-Err-NotASign-clause-answered g c =
    let s = g.S.SeatAt.facts c.args.seat.now c.args.desk.now in
    looked_only (λ deeds answer. (sign : Option Sign) × ReadsSign c.args.body.now sign × (answer ≡ sign_post s.limit deeds c.args.design.now c.args.die.now sign))
    (unprocessable kind.SignOff (1, NOT_A_SIGN)) c.unprocessable.result s s (did_nothing s) (None, c.in-Err-NotASign.ensures.refused c.in-Err-NotASign.field-0-is, refl) refl c.unprocessable.ensures
