-- What a request came to over a book.
use Rattle.std.specs.Prelude.{◌≡◌, ℕ, Bool, true, false, IsTrue, List, [], ◌∷◌, ◌++◌, Option, Some, None, Result, Ok, Err}
use Rattle.std.specs.Option.{is_some}
use Rattle.desk_outside.specs.declared.deed.Deed.{Deed}
use Rattle.desk_outside.specs.declared.deed.DeedKind.{DeedKind}
use Rattle.desk_heads.specs.declared.head.method.Method.{Method}
use Rattle.desk_heads.specs.declared.head.method.Method.TheVariants as method
use Rattle.desk_answers.specs.declared.routes.resource.Resource.{Resource}
use Rattle.desk_answers.specs.declared.routes.resource.Resource.TheVariants as resource
use Rattle.desk_replies.specs.declared.response.Response.{Response}
use Rattle.desk_replies.specs.declared.response.AnswerFault.{AnswerFault}
use Rattle.desk_replies.specs.declared.response.AnswerFault.TheVariants as answer_fault
use Rattle.die_entries.specs.declared.sign.Sign.{Sign}
use Rattle.desk_answers.specs.Resources.{resource_of}
use Rattle.desk_answers.specs.SignBodies.{IsSignBody}
use Rattle.desk_replies.specs.Answers.{Answer}
use Rattle.desk_replies.specs.Responses.{response_of}
use Rattle.desk_answers.specs.RouteAnswers.{answer_at, routed}
use Rattle.desk_answers.specs.Seats.{IsPrefix, SeatFacts, Did}

-- the body is that of a sign-off
abbrev pub has_sign : Option Resource → Method → Bool
has_sign (Some (resource.Signs design die)) method.Post = true
has_sign _ _ = false

-- what the body of a sign-off reads as, or None where it is none
abbrev pub ReadsSign : List ℕ → Option Sign → Type 0
ReadsSign body (Some sign) = IsSignBody body sign
ReadsSign body None = (sign : Sign) → ¬ (IsSignBody body sign)

-- what a request is answered after these deeds
pub record IsAnswer (limit : ℕ) (deeds : List Deed) (target : List ℕ) (m : Method) (body : List ℕ) (answer : Answer) : Type 0 where
  pub sign : Option Sign
  pub reads : has_sign (resource_of target) m ≡ true → ReadsSign body sign
  pub is : answer ≡ routed limit deeds (resource_of target) m body sign

-- ---- what a request came to

-- the deeds with what was done
abbrev pub with_done : ℕ → Option DeedKind → List Deed → List Deed
with_done by None deeds = deeds
with_done by (Some what) deeds = deeds ++ record { by = by; what = what } ∷ []

-- At these deeds a response was made as it should be and the deed is there; or the keeper failed where there would be one; or memory
-- ran out.
abbrev pub Came : Answer → ℕ → Result Response AnswerFault → List Deed → List Deed → Type 0
Came answer by (Ok response) at to = (response ≡ response_of answer) × (to ≡ with_done by answer.done at)
Came answer by (Err answer_fault.KeeperFault) at to = IsTrue (is_some answer.done) × (to ≡ at)
Came answer by (Err answer_fault.NoMemory) at to = to ≡ at

-- what was done by it
abbrev pub made_by : Answer → ℕ → Result Response AnswerFault → List Deed
made_by answer by (Ok response) = with_done by answer.done []
made_by answer by (Err fault) = []

abbrev pub failures_of : Result Response AnswerFault → ℕ
failures_of (Ok response) = 0
failures_of (Err answer_fault.KeeperFault) = 1
failures_of (Err answer_fault.NoMemory) = 0

-- what is asked was answered at some deeds, which begin with those that the seat had seen
pub record AnsweredAt (ask : List Deed → Answer → Type 0) (result : Result Response AnswerFault) (old new : SeatFacts) : Type 0 where
  pub at : List Deed
  pub answer : Answer
  pub is : ask at answer
  pub begins : IsPrefix old.seen at
  pub came : Came answer old.number result at new.seen
  pub did : Did (made_by answer old.number result) (failures_of result) old new

-- so, or memory ran out: then nothing was done
abbrev pub Answered : (List Deed → Answer → Type 0) → Result Response AnswerFault → SeatFacts → SeatFacts → Type 0
Answered ask (Ok response) old new = AnsweredAt ask (Ok response) old new
Answered ask (Err answer_fault.KeeperFault) old new = AnsweredAt ask (Err answer_fault.KeeperFault) old new
Answered ask (Err answer_fault.NoMemory) old new = Did [] 0 old new

-- where the deeds say the answer
abbrev pub AnsweredBy : (List Deed → Answer) → Result Response AnswerFault → SeatFacts → SeatFacts → Type 0
AnsweredBy say result old new = Answered (λ deeds answer. answer ≡ say deeds) result old new

-- what a request is answered after these deeds at a resource that has its method
pub record IsAnswerAt (limit : ℕ) (deeds : List Deed) (r : Resource) (m : Method) (body : List ℕ) (answer : Answer) : Type 0 where
  pub sign : Option Sign
  pub reads : has_sign (Some r) m ≡ true → ReadsSign body sign
  pub is : answer ≡ answer_at limit deeds r m body sign
