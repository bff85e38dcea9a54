-- From what a change came to, to what it is answered.
use Rattle.std.proofs.Common.{◌≡◌, ◌∙◌, ℕ, List, Result, Ok, ap}
use Rattle.diagnosis.specs.declared.put.Put.{Put}
use Rattle.book.specs.declared.answers.PutFault.{PutFault}
use Rattle.desk_outside.specs.declared.deed.DeedKind.{DeedKind}
use Rattle.desk_replies.specs.declared.response.Response.{Response}
use Rattle.desk_replies.specs.Answers.{put}
use Rattle.desk_replies.specs.Responses.{response_of, PutAnswered}

-- it was made, or was there already
pub made_answered : (body : ℕ → List ℕ) (result : Result Put PutFault) (got p : Put) (response : Response) → result ≡ Ok got → got ≡ p → ((what : DeedKind) → response ≡ response_of (put body what (Ok p)))
    → PutAnswered body result (Ok response)
made_answered body result got p response is same made =
    let there : result ≡ Ok p = is ∙ ap Ok same in
    (λ what. rw there (made what), λ failed. cc, λ short. cc)
