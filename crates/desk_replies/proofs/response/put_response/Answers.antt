use Rattle.std.proofs.Common.{◌∙◌, ℕ, List, ap}
use Rattle.diagnosis.specs.declared.put.Put.TheVariants.{Created, Same}
use Rattle.desk_replies.specs.declared.status.Status.TheVariants as status
use Rattle.desk_replies.specs.Answers.{plain}
use Rattle.desk_replies.specs.Bodies.{entry_body}
use Rattle.desk_replies.specs.Responses.{response_of}
use Rattle.desk_replies.proofs.PutAnswers.{made_answered}
use Rattle.desk_replies.proofs.response.put_response.Goals as goal

pub returns-in-Ok-Created : goal.returns-in-Ok-Created
returns-in-Ok-Created c =
    let there = c.in-Ok-Created in
    let same = rw there.is at there.field-0-is in
    made_answered (entry_body c.args.entry) c.args.put there.field-0 (Created there.number) c.short.result there.is same
    (λ what. c.short.ensures ∙ ap (λ (b : List ℕ). response_of (plain status.Created b)) c.body.ensures)

pub returns-in-Ok-Same : goal.returns-in-Ok-Same
returns-in-Ok-Same c =
    let there = c.in-Ok-Same in
    let same = rw there.is at there.field-0-is in
    made_answered (entry_body c.args.entry) c.args.put there.field-0 (Same there.number) c.short-in-Ok-Same.result there.is same
    (λ what. c.short-in-Ok-Same.ensures ∙ ap (λ (b : List ℕ). response_of (plain status.Ok b)) c.body-in-Ok-Same.ensures)
