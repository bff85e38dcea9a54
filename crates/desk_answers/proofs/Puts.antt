-- From what a change came to in the book to what was answered.
use Rattle.std.proofs.Common.{◌≡◌, ℕ, List, [], Option, Some, None, Result, Ok, Err, refl, sym, ap, ◌∙◌, subst}
use Rattle.std.specs.Prelude.{is_some, IsTrue}
use Rattle.sha2.specs.Sha256.{sha256}
use Rattle.scan_model.specs.declared.logs.LogFacts.{LogFacts}
use Rattle.scan_model.specs.ScanTest.{ScanTest}
use Rattle.scan_model.specs.LogText.{log_frame, log_reading}
use Rattle.text_parts.specs.declared.fault.TextFault.{TextFault}
use Rattle.text_parts.specs.declared.fault.ReadFault.{ReadFault}
use Rattle.text_parts.specs.declared.fault.ReadFault.TheVariants as read_fault
use Rattle.text_parts.specs.ReadResults.{Fails}
use Rattle.desk_outside.specs.declared.deed.Deed.{Deed}
use Rattle.desk_outside.specs.declared.deed.DeedKind.{DeedKind}
use Rattle.desk_outside.specs.declared.deed.DeedKind.TheVariants as deed
use Rattle.diagnosis.specs.declared.put.Put.{Put}
use Rattle.diagnosis.specs.declared.put.Put.TheVariants.{Created, Same}
use Rattle.book.specs.declared.answers.PutFault.{PutFault}
use Rattle.book.specs.declared.answers.PutFault.TheVariants as put_fault
use Rattle.book.specs.declared.answers.LookFault.{LookFault}
use Rattle.book.specs.declared.answers.LookFault.TheVariants as look_fault
use Rattle.diagnosis.specs.declared.section.Section.{Section}
use Rattle.diagnosis.specs.declared.section.Section.TheVariants as section
use Rattle.diagnosis.specs.declared.section.BundleFault.{BundleFault}
use Rattle.diagnosis.specs.declared.section.BundleFault.TheVariants as bundle_fault
use Rattle.diagnosis.specs.ReaderAnswers.{RefusedBy}
use Rattle.diagnosis.specs.Bundle.{bundle_reading}
use Rattle.diagnosis.specs.Designs.{DesignFacts, IsDesign, ReadLogFacts}
use Rattle.book.specs.Deeds.{design_test, test_of_text, test_of_reading}
use Rattle.book.specs.Answers.{known_design, design_answer, log_answer, design_look}
use Rattle.book.proofs.Longer.{text_stays}
use Rattle.book.proofs.Looking.{design_there}
use Rattle.book.specs.Changes.{Creates, Looked}
use Rattle.book.specs.Kinds.{design_deed, log_deed, text_behind}
use Rattle.desk_replies.specs.declared.response.Response.{Response}
use Rattle.desk_replies.specs.declared.response.AnswerFault.{AnswerFault}
use Rattle.desk_replies.specs.declared.response.AnswerFault.TheVariants as answer_fault
use Rattle.desk_replies.specs.Bodies.{design_body, log_body}
use Rattle.desk_replies.specs.declared.bodies.TextKind.TheVariants as kind
use Rattle.desk_replies.specs.Answers.{Answer, look, look_refused, put, put_refused, unprocessable}
use Rattle.desk_answers.specs.RouteAnswers.{over, with_design, design_read, design_put, log_read, log_post}
use Rattle.desk_answers.specs.BookAnswers.{AnsweredBy, with_done}
use Rattle.desk_replies.specs.Responses.{PutAnswered, response_of}
use Rattle.desk_answers.specs.Seats.{IsPrefix, SeatFacts, Did, SeatChanged, failed_in, IsLogIn}
use Rattle.desk_answers.proofs.SeatSteps.{did_nothing}
use Rattle.desk_answers.proofs.Answered.{said_as, looked_only, unfound}

-- ---- changes in general

creates_deed : (body : ℕ → List ℕ) (what : DeedKind) (answer : Result Put PutFault) → Creates answer → IsTrue (is_some (put body what answer).done)
creates_deed body what (Ok (Created n)) creates = refl
creates_deed body what (Ok (Same n)) creates = absurd creates
creates_deed body what (Err fault) creates = absurd creates

module _ (say : List Deed → Result Put PutFault) (body : ℕ → List ℕ) (what : DeedKind) (old new : SeatFacts) where
  -- a change that went well
  put_is : (p : Put) (response : Response) → SeatChanged say (record { by = old.number; what = what }) (Ok p) old new → response ≡ response_of (put body what (Ok p)) → AnsweredBy (λ deeds. put body what (say deeds)) (Ok response) old new
  put_is (Created n) response changed made =
      record { at = changed.at; answer = put body what (Ok (Created n)); is = ap (put body what) (sym changed.answered); begins = changed.begins; came = (made, changed.seen); did = changed.did }
  put_is (Same n) response changed made =
      record { at = changed.at; answer = put body what (Ok (Same n)); is = ap (put body what) (sym changed.answered); begins = changed.begins; came = (made, changed.seen); did = changed.did }

  own_refusal : (fault : PutFault) (response : Response) → (changed : SeatChanged say (record { by = old.number; what = what }) (Err fault) old new) → say changed.at ≡ Err fault → (put_refused fault).done ≡ None
      → failed_in (Err fault) ≡ 0 → response ≡ response_of (put_refused fault) → AnsweredBy (λ deeds. put body what (say deeds)) (Ok response) old new
  own_refusal fault response changed own none no_failure made = record {
    at = changed.at;
    answer = put_refused fault;
    is = ap (put body what) (sym own);
    begins = changed.begins;
    came = (made, changed.seen ∙ ap (λ done. with_done old.number done changed.at) (sym none));
    did = subst (λ (done : Option DeedKind). Did (with_done old.number done []) 0 old new) (sym none) (subst (λ n. Did [] n old new) no_failure changed.did);
  }

  -- a change by what it is answered
  pub answered_is : (result : Result Put PutFault) (out : Result Response AnswerFault) → SeatChanged say (record { by = old.number; what = what }) result old new → PutAnswered body result out
      → AnsweredBy (λ deeds. put body what (say deeds)) out old new
  answered_is (Ok p) (Ok response) changed is = put_is p response changed (is.0 what)
  answered_is (Err (put_fault.NameTaken kept)) (Ok response) changed is = own_refusal (put_fault.NameTaken kept) response changed changed.answered refl refl (is.0 what)
  answered_is (Err put_fault.UnknownDesign) (Ok response) changed is = own_refusal put_fault.UnknownDesign response changed changed.answered refl refl (is.0 what)
  answered_is (Err (put_fault.DigestDiffers right)) (Ok response) changed is = own_refusal (put_fault.DigestDiffers right) response changed changed.answered refl refl (is.0 what)
  answered_is (Err (put_fault.Full limit)) (Ok response) changed is = own_refusal (put_fault.Full limit) response changed changed.answered refl refl (is.0 what)
  answered_is (Err put_fault.Failed) (Ok response) changed is = absurd (is.1 refl)
  answered_is (Err put_fault.NoMemory) (Ok response) changed is = absurd (is.2 refl)
  answered_is result (Err answer_fault.KeeperFault) changed failed =
      let so = subst (λ r. SeatChanged say (record { by = old.number; what = what }) r old new) failed changed in
      record { at = so.at; answer = put body what (say so.at); is = refl; begins = so.begins; came = (creates_deed body what (say so.at) so.answered.0, so.seen); did = so.did }
  answered_is result (Err answer_fault.NoMemory) changed ran_out =
      let so = subst (λ r. SeatChanged say (record { by = old.number; what = what }) r old new) ran_out changed in so.did

-- ---- a design

-- a bundle that was read, as what is put
module _ (limit : ℕ) (name text : List ℕ) (d : DesignFacts) (t : ScanTest) (result : Result Put PutFault) (old new : SeatFacts) (reading : bundle_reading text ≡ Ok t) (named : d.name ≡ name) (texted : d.text ≡ text)
    (changed : SeatChanged (λ deeds. design_answer limit deeds d.name d.text) (design_deed old.number d) result old new) where
  changed_design : SeatChanged (λ deeds. design_answer limit deeds name text) (record { by = old.number; what = deed.Design name text }) result old new
  changed_design =
      let of_name = subst (λ (n : List ℕ). SeatChanged (λ deeds. design_answer limit deeds n d.text) (record { by = old.number; what = deed.Design n d.text }) result old new) named changed in
      subst (λ (x : List ℕ). SeatChanged (λ deeds. design_answer limit deeds name x) (record { by = old.number; what = deed.Design name x }) result old new) texted of_name

  pub design_answered : (out : Result Response AnswerFault) → PutAnswered (λ n. design_body name (sha256 text)) result out → AnsweredBy (λ deeds. design_put limit deeds name text) out old new
  design_answered out answered =
      said_as (λ deeds. put (λ n. design_body name (sha256 text)) (deed.Design name text) (design_answer limit deeds name text)) (λ deeds. design_put limit deeds name text) out old new
      (λ deeds begins. ap (λ (r : Result ScanTest (Section × (ℕ × ℕ))). design_read limit deeds r name text) (sym reading))
      (answered_is (λ deeds. design_answer limit deeds name text) (λ n. design_body name (sha256 text)) (deed.Design name text) old new result out changed_design answered)

-- a bundle that breaks a rule
pub design_unread : (limit : ℕ) (name text : List ℕ) (refusal : BundleFault) (section : Section) (fault : TextFault) (response : Response) (s : SeatFacts) → refusal ≡ bundle_fault.Text section fault
    → RefusedBy (bundle_reading text) refusal → response ≡ response_of (unprocessable (kind.Section section) (fault.line, fault.rule)) → AnsweredBy (λ deeds. design_put limit deeds name text) (Ok response) s s
design_unread limit name text refusal section fault response s is refused made =
    let reading : bundle_reading text ≡ Err (section, (fault.line, fault.rule)) = subst (λ r. RefusedBy (bundle_reading text) r) is refused in
    looked_only (λ deeds answer. answer ≡ design_put limit deeds name text) (unprocessable (kind.Section section) (fault.line, fault.rule)) response s s (did_nothing s)
    (ap (λ (r : Result ScanTest (Section × (ℕ × ℕ))). design_read limit s.seen r name text) (sym reading)) refl made

-- ---- designs that are there

-- goes on with the design that a look found
pub with_design_is : (deeds : List Deed) (name : List ℕ) (d : DesignFacts) (next : List ℕ → ScanTest → Answer) → design_look deeds name ≡ Ok d.text → IsDesign d → with_design deeds name next ≡ next d.text d.test
with_design_is deeds name d next looked design =
    ap (λ r. look r (λ text. over (test_of_text (Some text)) (next text))) looked ∙ ap (λ r. over (test_of_reading r) (next d.text)) design.stands

-- a design that is there stays
pub look_stays : (deeds later : List Deed) (name text : List ℕ) → IsPrefix deeds later → design_look deeds name ≡ Ok text → design_look later name ≡ Ok text
look_stays deeds later name text (more, cut) looked =
    ap (λ ds. design_look ds name) cut ∙ ap known_design (text_stays deeds more name text (design_there deeds name text looked))

-- ---- a log

-- a log is posted to a design that is there
pub log_post_is : (limit : ℕ) (deeds : List Deed) (design die text : List ℕ) (d : DesignFacts) (r : Result LogFacts (ℕ × ℕ)) → design_look deeds design ≡ Ok d.text → IsDesign d → d.name ≡ design
    → log_reading (log_frame d.test d.name die) text ≡ r → log_post limit deeds design die text ≡ log_read limit deeds r design die text
log_post_is limit deeds design die text d r looked is named reading =
    with_design_is deeds design d (λ bundle t. log_read limit deeds (log_reading (log_frame t design die) text) design die text) looked is
    ∙ ap (λ (n : List ℕ). log_read limit deeds (log_reading (log_frame d.test n die) text) design die text) (sym named)
    ∙ ap (λ x. log_read limit deeds x design die text) reading

-- a log that was read, of a design that is there
pub record IsPosted (deeds : List Deed) (design die text : List ℕ) (d : DesignFacts) (log : ReadLogFacts) : Type 0 where
  pub looked : design_look deeds design ≡ Ok d.text
  pub is : IsDesign d
  pub named : d.name ≡ design
  pub reading : log_reading (log_frame d.test d.name die) text ≡ Ok log.facts
  pub of_design : log.design ≡ design
  pub of_die : log.die ≡ die
  pub of_text : log.text ≡ text

-- so it is where the design was seen twice, and the log is kept behind a reference
pub is_posted : (deeds : List Deed) (design die text : List ℕ) (found seen again : DesignFacts) (log kept : ReadLogFacts) → seen ≡ found → again ≡ found → IsDesign seen
    → design_look deeds design ≡ Ok found.text → found.name ≡ design → log.design ≡ again.name → log.die ≡ die → log.text ≡ text
    → log_reading (log_frame again.test again.name die) text ≡ Ok log.facts → kept ≡ log → IsPosted deeds design die text found kept
is_posted deeds design die text found seen again log kept first second is looked named of_design of_die of_text reading same =
    subst (IsPosted deeds design die text found) (sym same) (record {
      looked = looked;
      is = subst IsDesign first is;
      named = named;
      reading = subst (λ (d : DesignFacts). log_reading (log_frame d.test d.name die) text ≡ Ok log.facts) second reading;
      of_design = of_design ∙ ap (λ (d : DesignFacts). d.name) second ∙ named;
      of_die = of_die;
      of_text = of_text;
    })

-- the log that was read stands at these deeds
pub posted_in : (deeds : List Deed) (design die text : List ℕ) (d : DesignFacts) (log : ReadLogFacts) → IsPosted deeds design die text d log → IsLogIn deeds log
posted_in deeds design die text d log is =
    let of_name : log.design ≡ d.name = is.of_design ∙ sym is.named in
    let looked : design_look deeds log.design ≡ Ok d.text = ap (design_look deeds) is.of_design ∙ is.looked in
    let found : design_test deeds log.design ≡ Some d.test = ap test_of_text (design_there deeds log.design d.text looked) ∙ ap test_of_reading is.is.stands in
    (d.test, found, rw (of_name, is.of_die, is.of_text) is.reading)

module _ (limit : ℕ) (design die text : List ℕ) (d : DesignFacts) (log : ReadLogFacts) (result : Result Put PutFault) (old new : SeatFacts) (is : IsPosted old.seen design die text d log)
    (changed : SeatChanged (λ deeds. log_answer limit deeds log.design log.die log.text) (log_deed old.number log) result old new) where
  changed_log : SeatChanged (λ deeds. log_answer limit deeds design die text) (record { by = old.number; what = deed.Log design die text }) result old new
  changed_log =
      let first = subst (λ (n : List ℕ). SeatChanged (λ deeds. log_answer limit deeds n log.die log.text) (record { by = old.number; what = deed.Log n log.die log.text }) result old new) is.of_design changed in
      let second = subst (λ (x : List ℕ). SeatChanged (λ deeds. log_answer limit deeds design x log.text) (record { by = old.number; what = deed.Log design x log.text }) result old new) is.of_die first in
      subst (λ (t : List ℕ). SeatChanged (λ deeds. log_answer limit deeds design die t) (record { by = old.number; what = deed.Log design die t }) result old new) is.of_text second

  pub log_answered : (out : Result Response AnswerFault) → PutAnswered log_body result out → AnsweredBy (λ deeds. log_post limit deeds design die text) out old new
  log_answered out answered =
      said_as (λ deeds. put log_body (deed.Log design die text) (log_answer limit deeds design die text)) (λ deeds. log_post limit deeds design die text) out old new
      (λ deeds begins. sym (log_post_is limit deeds design die text d (Ok log.facts) (look_stays old.seen deeds design d.text begins is.looked) is.is is.named is.reading))
      (answered_is (λ deeds. log_answer limit deeds design die text) log_body (deed.Log design die text) old new result out changed_log answered)

-- its design isn't there
pub log_unfound : (limit : ℕ) (design die text : List ℕ) (fault : LookFault) (response : Response) (old new : SeatFacts) → Did [] 0 old new → Looked text_behind (design_look new.seen design) (Err fault)
    → ¬ (fault ≡ look_fault.NoMemory) → response ≡ response_of (look_refused fault) → AnsweredBy (λ deeds. log_post limit deeds design die text) (Ok response) old new
log_unfound limit design die text fault response old new did looked memory made =
    unfound text_behind (design_look new.seen design) (λ deeds. log_post limit deeds design die text) fault response old new did looked
    (λ f none. ap (λ (r : Result (List ℕ) LookFault). look r (λ bundle. over (test_of_text (Some bundle)) (λ t. log_read limit new.seen (log_reading (log_frame t design die) text) design die text))) none) memory made

-- a log that breaks a rule
pub log_unread : (limit : ℕ) (design die text : List ℕ) (d again : DesignFacts) (refusal : ReadFault) (fault : TextFault) (response : Response) (old new : SeatFacts) → Did [] 0 old new → design_look new.seen design ≡ Ok d.text
    → IsDesign again → again ≡ d → d.name ≡ design → refusal ≡ read_fault.Text fault → Fails refusal (log_reading (log_frame again.test again.name die) text)
    → response ≡ response_of (unprocessable (kind.Section section.Log) (fault.line, fault.rule)) → AnsweredBy (λ deeds. log_post limit deeds design die text) (Ok response) old new
log_unread limit design die text d again refusal fault response old new did looked is same named of_text refused made =
    let reading = subst (λ r. Fails r (log_reading (log_frame d.test d.name die) text)) of_text (subst (λ (e : DesignFacts). Fails refusal (log_reading (log_frame e.test e.name die) text)) same refused) in
    looked_only (λ deeds answer. answer ≡ log_post limit deeds design die text) (unprocessable (kind.Section section.Log) (fault.line, fault.rule)) response old new did
    (sym (log_post_is limit new.seen design die text d (Err (fault.line, fault.rule)) looked (subst IsDesign same is) named reading)) refl made
