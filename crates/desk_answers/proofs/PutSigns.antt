-- What signing the report of a die is answered.
use Rattle.std.proofs.Common.{◌≡◌, ℕ, ◌<◌, ◌≤◌, ◌==◌, ◌||◌, Bool, true, false, nat_lt, min, List, length, take, [], ◌++◌, Some, Result, Ok, Err, refl, sym, ap, ◌∙◌, subst, arith}
use Rattle.std.specs.Prelude.{if◌then◌else◌}
use Rattle.std.proofs.lemmas.List.{length-take, length-map}
use Rattle.sha2.specs.Sha256.{sha256}
use Rattle.scan_model.specs.ScanTest.{ScanTest}
use Rattle.scan_model.specs.DieReport.{die_report}
use Rattle.desk_outside.specs.declared.deed.Deed.{Deed}
use Rattle.desk_outside.specs.declared.deed.DeedKind.TheVariants as deed
use Rattle.diagnosis.specs.declared.put.Put.{Put}
use Rattle.book.specs.declared.answers.PutFault.{PutFault}
use Rattle.book.specs.declared.answers.LookFault.{LookFault}
use Rattle.book.specs.declared.answers.LookFault.TheVariants as look_fault
use Rattle.diagnosis.specs.Designs.{IsDesign, ReadLogFacts, ViewFacts, IsView, texts_of, view_report}
use Rattle.book.specs.Deeds.{die_logs}
use Rattle.book.specs.Answers.{sign_answer, design_look, die_look, known_design, up_to}
use Rattle.book.specs.Changes.{IsViewIn, Looked}
use Rattle.book.specs.Kinds.{sign_deed}
use Rattle.book.proofs.Looking.{has_die, revision_stays}
use Rattle.desk_replies.specs.declared.response.Response.{Response}
use Rattle.desk_replies.specs.declared.response.AnswerFault.{AnswerFault}
use Rattle.die_entries.specs.declared.sign.Sign.{Sign}
use Rattle.desk_replies.specs.Bodies.{sign_off_line}
use Rattle.desk_replies.specs.Answers.{Answer, look, look_refused, put}
use Rattle.desk_answers.specs.RouteAnswers.{with_design, with_die, sign_post}
use Rattle.desk_answers.specs.BookAnswers.{AnsweredBy}
use Rattle.desk_replies.specs.Responses.{PutAnswered, response_of}
use Rattle.desk_answers.specs.Seats.{IsPrefix, SeatFacts, Did, SeatChanged}
use Rattle.desk_answers.proofs.Answered.{said_as, unfound}
use Rattle.desk_answers.proofs.Puts.{with_design_is, look_stays, answered_is}

-- ---- a die at a revision

up_to_ok : (b : Bool) (fault : LookFault) (x y : List (List ℕ)) → (if b then Err fault else Ok x) ≡ Ok y → (b ≡ false) × (x ≡ y)
up_to_ok true fault x y is = absurd cc
up_to_ok false fault x y is = (refl, cc)

-- the logs up to a revision are as many
cut_length : (logs texts : List (List ℕ)) (revision : ℕ) → up_to logs (Some revision) ≡ Ok texts → (0 < revision) × (length texts ≡ revision)
cut_length logs texts revision is =
    let cut = up_to_ok ((revision == 0) || nat_lt (length logs) revision) (look_fault.UnknownRevision (length logs)) (take revision logs) texts is in
    let within = cut.0 in
    let low : 0 < revision = grind (arith, within) in
    let high : revision ≤ length logs = grind (arith, within) in
    let many : length (take revision logs) ≡ min revision (length logs) = length-take revision logs in
    let same : length (take revision logs) ≡ length texts = ap length cut.1 in
    (low, omega (arith, many, same, high))

-- the die that a look found at a revision has so many logs
pub view_length : (deeds : List Deed) (design die : List ℕ) (revision : ℕ) (v : ViewFacts) → die_look deeds design die (Some revision) ≡ Ok (texts_of v.logs) → (0 < length v.logs) × (length v.logs ≡ revision)
view_length deeds design die revision v looked =
    let found = has_die deeds design die (λ logs. up_to logs (Some revision)) (texts_of v.logs) looked in
    let cut = cut_length (die_logs deeds design die) (texts_of v.logs) revision found.1 in
    let many : length (texts_of v.logs) ≡ length v.logs = length-map v.logs (λ (log : ReadLogFacts). log.text) in
    let low = cut.0 in
    let same = cut.1 in
    (omega (arith, low, same, many), omega (arith, same, many))

-- what is known of the die that a look found
pub record IsFoundDie (deeds : List Deed) (design die : List ℕ) (revision : ℕ) (v : ViewFacts) : Type 0 where
  pub looked : die_look deeds design die (Some revision) ≡ Ok (texts_of v.logs)
  pub there : design_look deeds design ≡ Ok v.design.text
  pub is : IsDesign v.design
  pub named : v.design.name ≡ design
  pub of_die : v.die ≡ die

-- so it is where the report was checked
pub is_found_die : (deeds : List Deed) (design die : List ℕ) (revision : ℕ) (v checked : ViewFacts) → checked ≡ v → die_look deeds design die (Some revision) ≡ Ok (texts_of v.logs) → IsViewIn deeds v → IsView v
    → v.design.name ≡ design → v.die ≡ die → IsFoundDie deeds design die revision checked
is_found_die deeds design die revision v checked same looked view is named of_die =
    subst (IsFoundDie deeds design die revision) (sym same) (record { looked = looked; there = ap (design_look deeds) (sym named) ∙ ap known_design view.design; is = is.design; named = named; of_die = of_die })

-- it stays where more deeds come
die_stays : (deeds later : List Deed) (design die : List ℕ) (revision : ℕ) (v : ViewFacts) → IsPrefix deeds later → IsFoundDie deeds design die revision v → IsFoundDie later design die revision v
die_stays deeds later design die revision v (more, cut) found =
    subst (λ ds. IsFoundDie ds design die revision v) (sym cut) (record {
      looked = (revision_stays deeds more design die (Some revision) revision (texts_of v.logs) refl found.looked).0;
      there = look_stays deeds (deeds ++ more) design v.design.text (more, refl) found.there;
      is = found.is;
      named = found.named;
      of_die = found.of_die;
    })

-- goes on with the die that a look found
with_die_is : (deeds : List Deed) (design die : List ℕ) (revision : ℕ) (v : ViewFacts) (next : ScanTest → List (List ℕ) → Answer) → IsFoundDie deeds design die revision v
    → with_die deeds design die (Some revision) next ≡ next v.design.test (texts_of v.logs)
with_die_is deeds design die revision v next found =
    ap (λ r. look r (λ texts. with_design deeds design (λ bundle t. next t texts))) found.looked
    ∙ with_design_is deeds design v.design (λ bundle t. next t (texts_of v.logs)) found.there found.is

-- ---- a sign-off

module _ (limit : ℕ) (design die : List ℕ) (sign : Sign) (v : ViewFacts) (result : Result Put PutFault) (old new : SeatFacts) (found : IsFoundDie old.seen design die sign.revision v)
    (changed : SeatChanged (λ deeds. sign_answer limit deeds v.design.name v.die (length v.logs) (sha256 (view_report v)) sign.signer sign.digest)
    (sign_deed old.number v.design.name v.die (record { revision = length v.logs; signer = sign.signer; digest = sign.digest })) result old new) where
  -- the change by what was given
  changed_sign : SeatChanged (λ deeds. sign_answer limit deeds design die sign.revision (sha256 (die_report v.design.test design die (texts_of v.logs))) sign.signer sign.digest)
      (record { by = old.number; what = deed.Sign design die sign.revision sign.signer sign.digest }) result old new
  changed_sign =
      let first = subst (λ (d : List ℕ). SeatChanged (λ deeds. sign_answer limit deeds d v.die (length v.logs) (sha256 (die_report v.design.test d v.die (texts_of v.logs))) sign.signer sign.digest)
      (record { by = old.number; what = deed.Sign d v.die (length v.logs) sign.signer sign.digest }) result old new) found.named changed in
      let second = subst (λ (x : List ℕ). SeatChanged (λ deeds. sign_answer limit deeds design x (length v.logs) (sha256 (die_report v.design.test design x (texts_of v.logs))) sign.signer sign.digest)
      (record { by = old.number; what = deed.Sign design x (length v.logs) sign.signer sign.digest }) result old new) found.of_die first in
      subst (λ (r : ℕ). SeatChanged (λ deeds. sign_answer limit deeds design die r (sha256 (die_report v.design.test design die (texts_of v.logs))) sign.signer sign.digest)
      (record { by = old.number; what = deed.Sign design die r sign.signer sign.digest }) result old new) (view_length old.seen design die sign.revision v found.looked).1 second

  pub sign_answered : (out : Result Response AnswerFault) → PutAnswered sign_off_line result out → AnsweredBy (λ deeds. sign_post limit deeds design die (Some sign)) out old new
  sign_answered out answered =
      said_as
      (λ deeds. put sign_off_line (deed.Sign design die sign.revision sign.signer sign.digest) (sign_answer limit deeds design die sign.revision (sha256 (die_report v.design.test design die (texts_of v.logs))) sign.signer sign.digest))
      (λ deeds. sign_post limit deeds design die (Some sign)) out old new
      (λ deeds begins. sym (with_die_is deeds design die sign.revision v
      (λ t texts. put sign_off_line (deed.Sign design die sign.revision sign.signer sign.digest)
      (sign_answer limit deeds design die sign.revision (sha256 (die_report t design die texts)) sign.signer sign.digest)) (die_stays old.seen deeds design die sign.revision v begins found)))
      (answered_is (λ deeds. sign_answer limit deeds design die sign.revision (sha256 (die_report v.design.test design die (texts_of v.logs))) sign.signer sign.digest) sign_off_line
      (deed.Sign design die sign.revision sign.signer sign.digest) old new result out changed_sign answered)

-- the die isn't there at the revision
pub sign_unfound : (limit : ℕ) (design die : List ℕ) (sign : Sign) (fault : LookFault) (response : Response) (old new : SeatFacts) → Did [] 0 old new
    → Looked (λ (view : ViewFacts). texts_of view.logs) (die_look new.seen design die (Some sign.revision)) (Err fault) → ¬ (fault ≡ look_fault.NoMemory) → response ≡ response_of (look_refused fault)
    → AnsweredBy (λ deeds. sign_post limit deeds design die (Some sign)) (Ok response) old new
sign_unfound limit design die sign fault response old new did looked memory made =
    unfound (λ (view : ViewFacts). texts_of view.logs) (die_look new.seen design die (Some sign.revision)) (λ deeds. sign_post limit deeds design die (Some sign)) fault response old new did looked
    (λ f none. ap (λ (r : Result (List (List ℕ)) LookFault). look r (λ texts. with_design new.seen design (λ bundle t. put sign_off_line (deed.Sign design die sign.revision sign.signer sign.digest)
    (sign_answer limit new.seen design die sign.revision (sha256 (die_report t design die texts)) sign.signer sign.digest)))) none) memory made
