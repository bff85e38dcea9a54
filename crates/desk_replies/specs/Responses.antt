-- The responses of answers, and what a look or a change is answered that is refused.
use Rattle.std.specs.Prelude.{◌≡◌, ℕ, List, Result, Ok, Err, ⊤}
use Rattle.scan_model.specs.declared.rows.NoMemory.{NoMemory}
use Rattle.desk_outside.specs.declared.deed.DeedKind.{DeedKind}
use Rattle.diagnosis.specs.declared.put.Put.{Put}
use Rattle.book.specs.declared.answers.PutFault.{PutFault}
use Rattle.book.specs.declared.answers.PutFault.TheVariants as put_fault
use Rattle.book.specs.declared.answers.LookFault.{LookFault}
use Rattle.desk_replies.specs.declared.response.Response.{Response}
use Rattle.desk_replies.specs.declared.response.AnswerFault.{AnswerFault}
use Rattle.desk_replies.specs.declared.response.AnswerFault.TheVariants as answer_fault
use Rattle.desk_replies.specs.Answers.{Answer, look_refused, put, put_refused}

-- the response of an answer
abbrev pub response_of : Answer → Response
response_of answer = record { status = answer.status; methods = answer.methods; body = answer.body }

-- what a look is answered that found nothing; memory may have run out
abbrev pub RefusedLook : LookFault → Result Response NoMemory → Type 0
RefusedLook fault (Ok response) = response ≡ response_of (look_refused fault)
RefusedLook fault (Err _) = ⊤

-- what a change is answered that was refused
abbrev pub RefusedPut : PutFault → Result Response AnswerFault → Type 0
RefusedPut fault (Ok response) = response ≡ response_of (put_refused fault)
RefusedPut fault (Err answer_fault.KeeperFault) = fault ≡ put_fault.Failed
RefusedPut fault (Err answer_fault.NoMemory) = fault ≡ put_fault.NoMemory

-- what a change is answered, by the body for its number; the keeper may have failed, or memory have run out
abbrev pub PutAnswered : (ℕ → List ℕ) → Result Put PutFault → Result Response AnswerFault → Type 0
PutAnswered body result (Ok response) =
    ((what : DeedKind) → response ≡ response_of (put body what result)) × (¬ (result ≡ Err put_fault.Failed)) × (¬ (result ≡ Err put_fault.NoMemory))
PutAnswered body result (Err answer_fault.KeeperFault) = result ≡ Err put_fault.Failed
PutAnswered body result (Err answer_fault.NoMemory) = result ≡ Err put_fault.NoMemory
