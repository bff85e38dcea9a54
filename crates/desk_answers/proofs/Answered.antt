-- From what a seat's calls came to, to what was answered.
use Rattle.std.proofs.Common.{◌≡◌, ◌∙◌, ℕ, Bool, List, [], Option, Some, None, Result, Ok, Err, true, false, refl, sym, ap, subst, true≢false}
use Rattle.std.specs.Prelude.{if◌then◌else◌}
use Rattle.desk_outside.specs.declared.deed.Deed.{Deed}
use Rattle.book.specs.declared.answers.LookFault.{LookFault}
use Rattle.book.specs.declared.answers.LookFault.TheVariants as look_fault
use Rattle.book.specs.Changes.{Looked}
use Rattle.die_entries.specs.declared.sign.Sign.{Sign}
use Rattle.desk_heads.specs.declared.head.method.Method.{Method}
use Rattle.desk_heads.specs.declared.head.method.Method.TheVariants as method
use Rattle.desk_answers.specs.declared.routes.resource.Resource.{Resource}
use Rattle.desk_answers.specs.declared.routes.resource.Resource.TheVariants as resource
use Rattle.desk_replies.specs.declared.response.Response.{Response}
use Rattle.desk_replies.specs.declared.response.AnswerFault.{AnswerFault}
use Rattle.desk_replies.specs.declared.response.AnswerFault.TheVariants as answer_fault
use Rattle.desk_replies.specs.declared.bodies.Refusal.TheVariants as refusal
use Rattle.desk_replies.specs.declared.methods.Methods.TheVariants as methods
use Rattle.desk_replies.specs.Methods.{allows}
use Rattle.desk_answers.specs.Resources.{resource_of, methods_of}
use Rattle.desk_replies.specs.Answers.{Answer, refused, other_method, look_refused}
use Rattle.desk_answers.specs.RouteAnswers.{answer_at, routed, predicted, design_put, sign_post}
use Rattle.desk_answers.specs.Seats.{IsPrefix, SeatFacts, Did}
use Rattle.desk_answers.specs.BookAnswers.{Came, made_by, failures_of, AnsweredAt, Answered, AnsweredBy, IsAnswer, IsAnswerAt, ReadsSign, has_sign, with_done}
use Rattle.desk_replies.specs.Responses.{response_of}
use Rattle.desk_answers.proofs.SeatSteps.{prefix_on, did_after_nothing}
use Rattle.desk_answers.proofs.SignKnown.{sign_known}
use Rattle.desk_answers.proofs.Gets.{look_refused_does_nothing, design_get_does_nothing, fails_get_does_nothing, report_get_does_nothing, page_get_does_nothing, slat_get_does_nothing, slat_pattern_get_does_nothing, sign_get_does_nothing}

-- ---- in general

-- what is asked may be said otherwise
pub asked_as : (ask other : List Deed → Answer → Type 0) (result : Result Response AnswerFault) (old new : SeatFacts) → ((deeds : List Deed) (answer : Answer) → IsPrefix old.seen deeds → ask deeds answer → other deeds answer)
    → Answered ask result old new → Answered other result old new
asked_as ask other (Ok response) old new means is = record { at = is.at; answer = is.answer; is = means is.at is.answer is.begins is.is; begins = is.begins; came = is.came; did = is.did }
asked_as ask other (Err answer_fault.KeeperFault) old new means is = record { at = is.at; answer = is.answer; is = means is.at is.answer is.begins is.is; begins = is.begins; came = is.came; did = is.did }
asked_as ask other (Err answer_fault.NoMemory) old new means is = is

-- so may an answer that the deeds determine
pub said_as : (say other : List Deed → Answer) (result : Result Response AnswerFault) (old new : SeatFacts) → ((deeds : List Deed) → IsPrefix old.seen deeds → say deeds ≡ other deeds)
    → AnsweredBy say result old new → AnsweredBy other result old new
said_as say other result old new means is =
    asked_as (λ deeds answer. answer ≡ say deeds) (λ deeds answer. answer ≡ other deeds) result old new (λ deeds answer begins said. said ∙ means deeds begins) is

at_after_look : (ask : List Deed → Answer → Type 0) (result : Result Response AnswerFault) (old mid new : SeatFacts) → Did [] 0 old mid → AnsweredAt ask result mid new → AnsweredAt ask result old new
at_after_look ask result old mid new looked is =
    let by_number : Did (made_by is.answer old.number result) (failures_of result) mid new = subst (λ n. Did (made_by is.answer n result) (failures_of result) mid new) looked.number is.did in
    record {
      at = is.at;
      answer = is.answer;
      is = is.is;
      begins = prefix_on old.seen mid.seen is.at looked.seen is.begins;
      came = subst (λ n. Came is.answer n result is.at new.seen) looked.number is.came;
      did = did_after_nothing (made_by is.answer old.number result) (failures_of result) old mid new looked by_number;
    }

-- a look comes before it
pub after_look : (ask : List Deed → Answer → Type 0) (result : Result Response AnswerFault) (old mid new : SeatFacts) → Did [] 0 old mid → Answered ask result mid new → Answered ask result old new
after_look ask (Ok response) old mid new looked is = at_after_look ask (Ok response) old mid new looked is
after_look ask (Err answer_fault.KeeperFault) old mid new looked is = at_after_look ask (Err answer_fault.KeeperFault) old mid new looked is
after_look ask (Err answer_fault.NoMemory) old mid new looked is = did_after_nothing [] 0 old mid new looked is

-- nothing was done but looked
pub looked_only : (ask : List Deed → Answer → Type 0) (answer : Answer) (response : Response) (old new : SeatFacts) → Did [] 0 old new → ask new.seen answer → answer.done ≡ None → response ≡ response_of answer
    → Answered ask (Ok response) old new
looked_only ask answer response old new looked is none made = record {
  at = new.seen;
  answer = answer;
  is = is;
  begins = looked.seen;
  came = (made, ap (λ done. with_done old.number done new.seen) (sym none));
  did = subst (λ (done : Option _). Did (with_done old.number done []) 0 old new) (sym none) looked;
}

own_fault : {X Y : Type 0} (shown : X → Y) (found : Result Y LookFault) (fault : LookFault) → Looked shown found (Err fault) → ¬ (fault ≡ look_fault.NoMemory) → found ≡ Err fault
own_fault shown found look_fault.UnknownDesign is memory = is
own_fault shown found look_fault.UnknownDie is memory = is
own_fault shown found (look_fault.UnknownRevision have) is memory = is
own_fault shown found (look_fault.UnknownSign have) is memory = is
own_fault shown found look_fault.NoMemory is memory = absurd (memory refl)

-- a look found nothing
pub unfound : {X Y : Type 0} (shown : X → Y) (found : Result Y LookFault) (say : List Deed → Answer) (fault : LookFault) (response : Response) (old new : SeatFacts) → Did [] 0 old new → Looked shown found (Err fault)
    → ((f : LookFault) → found ≡ Err f → say new.seen ≡ look_refused f) → ¬ (fault ≡ look_fault.NoMemory) → response ≡ response_of (look_refused fault) → AnsweredBy say (Ok response) old new
unfound shown found say fault response old new did looked says memory made =
    looked_only (λ deeds answer. answer ≡ say deeds) (look_refused fault) response old new did (sym (says fault (own_fault shown found fault looked memory))) (look_refused_does_nothing fault) made

-- a look comes before it, which keeps how many deeds there may be
pub after_look_by : (say : ℕ → List Deed → Answer) (result : Result Response AnswerFault) (old mid new : SeatFacts) → Did [] 0 old mid → AnsweredBy (say mid.limit) result mid new → AnsweredBy (say old.limit) result old new
after_look_by say result old mid new looked is =
    after_look (λ deeds answer. answer ≡ say old.limit deeds) result old mid new looked (subst (λ n. AnsweredBy (say n) result mid new) looked.limit is)

-- ---- at a resource

-- what is got there has no sign-off and no body, and does nothing
got_is : (limit : ℕ) (body : List ℕ) (deeds : List Deed) (r : Resource) → allows (methods_of r) method.Get ≡ true
    → (has_sign (Some r) method.Get ≡ false) × (answer_at 0 deeds r method.Get [] None ≡ answer_at limit deeds r method.Get body None) × ((answer_at 0 deeds r method.Get [] None).done ≡ None)
got_is limit body deeds (resource.Design design) got = (refl, refl, design_get_does_nothing deeds design)
got_is limit body deeds (resource.Fails design fault) got = (refl, refl, fails_get_does_nothing deeds predicted design fault)
got_is limit body deeds (resource.Logs design die) got = absurd (true≢false (sym got))
got_is limit body deeds (resource.LastReport design die) got = (refl, refl, report_get_does_nothing deeds design die None)
got_is limit body deeds (resource.Report design die revision) got = (refl, refl, report_get_does_nothing deeds design die (Some revision))
got_is limit body deeds (resource.Page design die revision line) got = (refl, refl, page_get_does_nothing deeds design die revision line)
got_is limit body deeds (resource.Slat design die revision) got = (refl, refl, slat_get_does_nothing deeds design die revision)
got_is limit body deeds (resource.SlatPattern design die revision pattern) got = (refl, refl, slat_pattern_get_does_nothing deeds design die revision pattern)
got_is limit body deeds (resource.Signs design die) got = absurd (true≢false (sym got))
got_is limit body deeds (resource.Sign design die number) got = (refl, refl, sign_get_does_nothing deeds design die number)

-- where GET is the one method nothing is changed
get_alone : (m : Method) → allows methods.Get m ≡ true → ¬ (m ≡ method.Get) → ⊥
get_alone method.Get allowed changes = changes refl
get_alone method.Put allowed changes = true≢false (sym allowed)
get_alone method.Post allowed changes = true≢false (sym allowed)
get_alone method.Head allowed changes = true≢false (sym allowed)
get_alone method.Other allowed changes = true≢false (sym allowed)

-- what is changed is a design, or the logs or sign-offs of a die
pub none_changed : (r : Resource) (m : Method) → allows (methods_of r) m ≡ true → ¬ (m ≡ method.Get)
    → ((d : List ℕ) → ¬ (r ≡ resource.Design d)) → ((d x : List ℕ) → ¬ (r ≡ resource.Logs d x)) → ((d x : List ℕ) → ¬ (r ≡ resource.Signs d x)) → ⊥
none_changed (resource.Design d) m allowed changes design logs signs = design d refl
none_changed (resource.Fails d f) m allowed changes design logs signs = get_alone m allowed changes
none_changed (resource.Logs d x) m allowed changes design logs signs = logs d x refl
none_changed (resource.LastReport d x) m allowed changes design logs signs = get_alone m allowed changes
none_changed (resource.Report d x r) m allowed changes design logs signs = get_alone m allowed changes
none_changed (resource.Page d x r l) m allowed changes design logs signs = get_alone m allowed changes
none_changed (resource.Slat d x r) m allowed changes design logs signs = get_alone m allowed changes
none_changed (resource.SlatPattern d x r w) m allowed changes design logs signs = get_alone m allowed changes
none_changed (resource.Signs d x) m allowed changes design logs signs = signs d x refl
none_changed (resource.Sign d x n) m allowed changes design logs signs = get_alone m allowed changes

-- a design that is changed is put
pub design_is_put : (limit : ℕ) (deeds : List Deed) (name : List ℕ) (m : Method) (body : List ℕ) → allows methods.GetPut m ≡ true → ¬ (m ≡ method.Get)
    → answer_at limit deeds (resource.Design name) m body None ≡ design_put limit deeds name body
design_is_put limit deeds name method.Get body allowed changes = absurd (changes refl)
design_is_put limit deeds name method.Put body allowed changes = refl
design_is_put limit deeds name method.Post body allowed changes = absurd (true≢false (sym allowed))
design_is_put limit deeds name method.Head body allowed changes = absurd (true≢false (sym allowed))
design_is_put limit deeds name method.Other body allowed changes = absurd (true≢false (sym allowed))

module _ (limit : ℕ) (r : Resource) (m : Method) (body : List ℕ) (old new : SeatFacts) where
  -- what is changed there, with a body that is no sign-off's
  pub at_resource : (say : List Deed → Answer) (result : Result Response AnswerFault) → has_sign (Some r) m ≡ false → ((deeds : List Deed) → answer_at limit deeds r m body None ≡ say deeds)
      → AnsweredBy say result old new → Answered (λ deeds answer. IsAnswerAt limit deeds r m body answer) result old new
  at_resource say result unsigned says is =
      asked_as (λ deeds answer. answer ≡ say deeds) (λ deeds answer. IsAnswerAt limit deeds r m body answer) result old new
      (λ deeds answer begins said. record { sign = None; reads = λ signed. absurd (true≢false (sym signed ∙ unsigned)); is = said ∙ sym (says deeds) }) is

-- what is posted to the sign-offs of a die
pub at_signs : (limit : ℕ) (design die : List ℕ) (m : Method) (body : List ℕ) (old new : SeatFacts) (result : Result Response AnswerFault)
    → Answered (λ deeds answer. (sign : Option Sign) × ReadsSign body sign × (answer ≡ sign_post limit deeds design die sign)) result old new
    → Answered (λ deeds answer. IsAnswerAt limit deeds (resource.Signs design die) m body answer) result old new
at_signs limit design die m body old new result is =
    asked_as (λ deeds answer. (sign : Option Sign) × ReadsSign body sign × (answer ≡ sign_post limit deeds design die sign)) (λ deeds answer. IsAnswerAt limit deeds (resource.Signs design die) m body answer) result old new
    (λ deeds answer begins said. record { sign = said.0; reads = λ signed. said.1; is = said.2 }) is

-- what is got there
pub got_at : (limit : ℕ) (r : Resource) (m : Method) (body : List ℕ) (response : Response) (old new : SeatFacts) → m ≡ method.Get → allows (methods_of r) m ≡ true → Did [] 0 old new
    → response ≡ response_of (answer_at 0 new.seen r method.Get [] None) → Answered (λ deeds answer. IsAnswerAt limit deeds r m body answer) (Ok response) old new
got_at limit r m body response old new is_get got looked made =
    let known = got_is limit body new.seen r (subst (λ m. allows (methods_of r) m ≡ true) is_get got) in
    subst (λ m. Answered (λ deeds answer. IsAnswerAt limit deeds r m body answer) (Ok response) old new) (sym is_get)
    (looked_only (λ deeds answer. IsAnswerAt limit deeds r method.Get body answer) (answer_at 0 new.seen r method.Get [] None) response old new looked
    (record { sign = None; reads = λ signed. absurd (true≢false (sym signed ∙ known.0)); is = known.1 }) known.2 made)

-- ---- what a request is answered

module _ (limit : ℕ) (deeds : List Deed) (target : List ℕ) (m : Method) (body : List ℕ) where
  -- a target that names nothing
  pub no_route_is : resource_of target ≡ None → IsAnswer limit deeds target m body (refused refusal.NoRoute)
  no_route_is none =
      let known = sign_known body in
      record { sign = known.0; reads = λ signed. known.1; is = sym (ap (λ r. routed limit deeds r m body known.0) none) }

  -- a resource that has not the method
  pub other_method_is : (r : Resource) → resource_of target ≡ Some r → allows (methods_of r) m ≡ false → IsAnswer limit deeds target m body (other_method (methods_of r))
  other_method_is r named other =
      let known = sign_known body in
      let refusal : routed limit deeds (Some r) m body known.0 ≡ other_method (methods_of r) =
      ap (λ (allowed : Bool). if allowed then answer_at limit deeds r m body known.0 else other_method (methods_of r)) other in
      record { sign = known.0; reads = λ signed. known.1; is = sym (ap (λ r. routed limit deeds r m body known.0) named ∙ refusal) }

  -- a resource that has it
  pub method_is : (r : Resource) (answer : Answer) → resource_of target ≡ Some r → allows (methods_of r) m ≡ true → IsAnswerAt limit deeds r m body answer → IsAnswer limit deeds target m body answer
  method_is r answer named allowed at =
      let there : routed limit deeds (Some r) m body at.sign ≡ answer_at limit deeds r m body at.sign =
      ap (λ (is : Bool). if is then answer_at limit deeds r m body at.sign else other_method (methods_of r)) allowed in
      record { sign = at.sign; reads = λ signed. at.reads (subst (λ (o : Option Resource). has_sign o m ≡ true) named signed); is = at.is ∙ sym (ap (λ r. routed limit deeds r m body at.sign) named ∙ there) }
