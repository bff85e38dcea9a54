-- What is got: nothing is done by it, and what is made of a die is made of the view that was found.
use Rattle.std.proofs.Common.{◌≡◌, ℕ, zero, suc, ◌-◌, ◌<◌, ◌≤◌, Bool, true, false, ◌&&◌, ◌||◌, nat_lt, List, [], ◌∷◌, ◌++◌, length, All, Option, Some, None, Result, Ok, Err, refl, sym, ap, ◌∙◌, subst, arith}
use Rattle.std.specs.Prelude.{if◌then◌else◌, slice_get, ⊤}
use Rattle.std.specs.List.{cons_option, list_all}
use Rattle.std.specs.Str.{bytes_eq}
use Rattle.std.proofs.lemmas.Bool.Decides.{nat_tests}
use Rattle.std.proofs.lemmas.Grind.{common_steps}
use Rattle.std.proofs.lemmas.List.Elements.{All-nil, All-cons, All-append, All-get_or}
use Rattle.std.proofs.lemmas.Option.{slice_get_within, get_or_from_slice_get}
use Rattle.scan_model.specs.ScanTest.{ScanTest}
use Rattle.scan_model.specs.Words.{is_tag, is_tag_byte, is_letter, is_digit}
use Rattle.scan_model.specs.DieReport.{die_report, logs_of_texts}
use Rattle.scan_model.specs.ReportText.{report_lines, page_of}
use Rattle.scan_model.specs.Universe.{universe}
use Rattle.diag_report.specs.PredictedLog.{predicted_log, fault_of}
use Rattle.desk_outside.specs.declared.deed.Deed.{Deed}
use Rattle.desk_outside.specs.declared.deed.DeedKind.{DeedKind}
use Rattle.desk_outside.specs.declared.deed.DeedKind.TheVariants.{Design, Log, Sign}
use Rattle.book.specs.declared.answers.LookFault.{LookFault}
use Rattle.book.specs.declared.answers.LookFault.TheVariants as look_fault
use Rattle.die_entries.specs.declared.sign.Sign.{Sign as SignOff}
use Rattle.scan_model.specs.declared.logs.LogFacts.{LogFacts}
use Rattle.diagnosis.specs.Designs.{DesignFacts, ViewFacts, IsDesign, IsView, texts_of, facts_of, view_lines, view_report}
use Rattle.diagnosis.specs.Cases.{case_of}
use Rattle.diagnosis.proofs.Cases.{texts_stand}
use Rattle.diagnosis.proofs.Views.{view_is_case}
use Rattle.slat_view.specs.SlatText.{slat_text}
use Rattle.book.specs.Deeds.{design_text, test_of_text, test_of_reading, die_signs, sign_in}
use Rattle.book.specs.Answers.{known_design, design_look, die_look, sign_look, sign_numbered}
use Rattle.book.specs.Changes.{IsViewIn}
use Rattle.book.specs.LegalDeeds.{fits, each_fits, is_legal}
use Rattle.book.proofs.LegalLists.{both, along}
use Rattle.book.proofs.Longer.{signs-append}
use Rattle.book.proofs.Looking.{has_die}
use Rattle.desk_replies.specs.declared.status.Status.TheVariants as status
use Rattle.desk_replies.specs.Bodies.{unknown_line_body, unknown_fault_body}
use Rattle.desk_replies.specs.Answers.{Answer, plain, look_refused, look}
use Rattle.desk_answers.specs.RouteAnswers.{over, with_design, with_die, page_of_lines, pattern_page, design_get, fails_get, report_get, page_get, slat_get, slat_pattern_get, sign_get}

-- ---- nothing is done

abbrev pub DoesNothing : Answer → Type 0
DoesNothing answer = answer.done ≡ None

pub look_refused_does_nothing : (fault : LookFault) → DoesNothing (look_refused fault)
look_refused_does_nothing look_fault.UnknownDesign = refl
look_refused_does_nothing look_fault.UnknownDie = refl
look_refused_does_nothing (look_fault.UnknownRevision have) = refl
look_refused_does_nothing (look_fault.UnknownSign have) = refl
look_refused_does_nothing look_fault.NoMemory = refl

pub look_does_nothing : {X : Type 0} (found : Result X LookFault) (next : X → Answer) → ((x : X) → DoesNothing (next x)) → DoesNothing (look found next)
look_does_nothing (Ok x) next nothing = nothing x
look_does_nothing (Err fault) next nothing = look_refused_does_nothing fault

over_does_nothing : (test : Option ScanTest) (next : ScanTest → Answer) → ((t : ScanTest) → DoesNothing (next t)) → DoesNothing (over test next)
over_does_nothing (Some t) next nothing = nothing t
over_does_nothing None next nothing = refl

either_does_nothing : (b : Bool) (one other : Answer) → DoesNothing one → DoesNothing other → DoesNothing (if b then one else other)
either_does_nothing true one other nothing none = nothing
either_does_nothing false one other nothing none = none

module _ (deeds : List Deed) where
  pub with_design_does_nothing : (name : List ℕ) (next : List ℕ → ScanTest → Answer) → ((text : List ℕ) (t : ScanTest) → DoesNothing (next text t)) → DoesNothing (with_design deeds name next)
  with_design_does_nothing name next nothing =
      look_does_nothing (design_look deeds name) (λ text. over (test_of_text (Some text)) (next text)) (λ text. over_does_nothing (test_of_text (Some text)) (next text) (nothing text))

  pub with_die_does_nothing : (design die : List ℕ) (revision : Option ℕ) (next : ScanTest → List (List ℕ) → Answer) → ((t : ScanTest) (texts : List (List ℕ)) → DoesNothing (next t texts))
      → DoesNothing (with_die deeds design die revision next)
  with_die_does_nothing design die revision next nothing =
      look_does_nothing (die_look deeds design die revision) (λ texts. with_design deeds design (λ bundle t. next t texts))
      (λ texts. with_design_does_nothing design (λ bundle t. next t texts) (λ bundle t. nothing t texts))

  pub design_get_does_nothing : (name : List ℕ) → DoesNothing (design_get deeds name)
  design_get_does_nothing name = with_design_does_nothing name _ (λ text t. refl)

  pub fails_get_does_nothing : (die name : List ℕ) (fault : ℕ) → DoesNothing (fails_get deeds die name fault)
  fails_get_does_nothing die name fault = with_design_does_nothing name _ (λ text t. either_does_nothing _ _ _ refl refl)

  pub report_get_does_nothing : (design die : List ℕ) (revision : Option ℕ) → DoesNothing (report_get deeds design die revision)
  report_get_does_nothing design die revision = with_die_does_nothing design die revision _ (λ t texts. refl)

  pub page_get_does_nothing : (design die : List ℕ) (revision from : ℕ) → DoesNothing (page_get deeds design die revision from)
  page_get_does_nothing design die revision from = with_die_does_nothing design die (Some revision) _ (λ t texts. either_does_nothing _ _ _ refl refl)

  pub slat_get_does_nothing : (design die : List ℕ) (revision : ℕ) → DoesNothing (slat_get deeds design die revision)
  slat_get_does_nothing design die revision = with_die_does_nothing design die (Some revision) _ (λ t texts. refl)

  pub slat_pattern_get_does_nothing : (design die : List ℕ) (revision w : ℕ) → DoesNothing (slat_pattern_get deeds design die revision w)
  slat_pattern_get_does_nothing design die revision w = with_die_does_nothing design die (Some revision) _ (λ t texts. either_does_nothing _ _ _ refl refl)

  pub sign_get_does_nothing : (design die : List ℕ) (number : ℕ) → DoesNothing (sign_get deeds design die number)
  sign_get_does_nothing design die number = look_does_nothing (sign_look deeds design die number) _ (λ sign. refl)

-- ---- looks

-- what is made of a die is made of the view that was found
module _ (deeds : List Deed) (design die : List ℕ) (revision : Option ℕ) (v : ViewFacts) where
  pub die_got : (next : ScanTest → List (List ℕ) → Answer) → die_look deeds design die revision ≡ Ok (texts_of v.logs) → IsViewIn deeds v → IsDesign v.design → v.design.name ≡ design
      → with_die deeds design die revision next ≡ next v.design.test (texts_of v.logs)
  die_got next looked view is named =
      ap (λ (found : Result (List (List ℕ)) LookFault). look found (λ texts. with_design deeds design (λ bundle t. next t texts))) looked
      ∙ ap (λ (o : Option (List ℕ)). look (known_design o) (λ text. over (test_of_text (Some text)) (λ t. next t (texts_of v.logs)))) (subst (λ n. design_text deeds n ≡ Some v.design.text) named view.design)
      ∙ ap (λ r. over (test_of_reading r) (λ t. next t (texts_of v.logs))) is.stands

  pub report_got : die_look deeds design die revision ≡ Ok (texts_of v.logs) → IsViewIn deeds v → IsDesign v.design → v.design.name ≡ design → v.die ≡ die
      → report_get deeds design die revision ≡ plain status.Ok (view_report v)
  report_got looked view is named of_die =
      die_got (λ t texts. plain status.Ok (die_report t design die texts)) looked view is named
      ∙ ap (λ (n : List ℕ). plain status.Ok (die_report v.design.test n die (texts_of v.logs))) (sym named)
      ∙ ap (λ (x : List ℕ). plain status.Ok (die_report v.design.test v.design.name x (texts_of v.logs))) (sym of_die)

-- the log that a fault of a design predicts
pub fails_got : (deeds : List Deed) (die name : List ℕ) (fault : ℕ) (d : DesignFacts) → design_look deeds name ≡ Ok d.text → IsDesign d → d.name ≡ name → fault < length (universe d.test)
    → fails_get deeds die name fault ≡ plain status.Ok (predicted_log d.test d.name die (fault_of d.test fault))
fails_got deeds die name fault d looked is named below =
    let next : List ℕ → ScanTest → Answer =
    λ text t. if nat_lt fault (length (universe t)) then plain status.Ok (predicted_log t name die (fault_of t fault)) else plain status.NotFound (unknown_fault_body (length (universe t))) in
    let there : nat_lt fault (length (universe d.test)) ≡ true = grind (arith, nat_tests) in
    ap (λ r. look r (λ text. over (test_of_text (Some text)) (next text))) looked
    ∙ ap (λ r. over (test_of_reading r) (next d.text)) is.stands
    ∙ ap (λ (b : Bool). if b then plain status.Ok (predicted_log d.test name die (fault_of d.test fault)) else plain status.NotFound (unknown_fault_body (length (universe d.test)))) there
    ∙ ap (λ (n : List ℕ). plain status.Ok (predicted_log d.test n die (fault_of d.test fault))) (sym named)

-- the lines of a view's report
pub lines_got : (deeds : List Deed) (design die : List ℕ) (revision from : ℕ) (v : ViewFacts) → die_look deeds design die (Some revision) ≡ Ok (texts_of v.logs) → IsViewIn deeds v → IsDesign v.design → v.design.name ≡ design → v.die ≡ die
    → page_get deeds design die revision from ≡ page_of_lines (view_lines v) from
lines_got deeds design die revision from v looked view is named of_die =
    die_got deeds design die (Some revision) v (λ t texts. page_of_lines (report_lines t design die (logs_of_texts t design die texts)) from) looked view is named
    ∙ ap (λ (n : List ℕ). page_of_lines (report_lines v.design.test n die (logs_of_texts v.design.test n die (texts_of v.logs))) from) (sym named)
    ∙ ap (λ (x : List ℕ). page_of_lines (report_lines v.design.test v.design.name x (logs_of_texts v.design.test v.design.name x (texts_of v.logs))) from) (sym of_die)

-- what single faults explain in a view
module _ (deeds : List Deed) (design die : List ℕ) (revision : ℕ) (v : ViewFacts) (looked : die_look deeds design die (Some revision) ≡ Ok (texts_of v.logs)) (there : IsViewIn deeds v) (view : IsView v)
    (named : v.design.name ≡ design) (of_die : v.die ≡ die) where
  logs_are : logs_of_texts v.design.test design die (texts_of v.logs) ≡ facts_of v.logs
  logs_are =
      ap (λ (n : List ℕ). logs_of_texts v.design.test n die (texts_of v.logs)) (sym named)
      ∙ ap (λ (x : List ℕ). logs_of_texts v.design.test v.design.name x (texts_of v.logs)) (sym of_die)
      ∙ texts_stand (case_of v) (view_is_case v view)

  pub slat_got : slat_get deeds design die revision ≡ plain status.Ok (slat_text v.design.test design die (facts_of v.logs))
  slat_got =
      die_got deeds design die (Some revision) v (λ t texts. plain status.Ok (slat_text t design die (logs_of_texts t design die texts))) looked there view.design named
      ∙ ap (λ (logs : List LogFacts). plain status.Ok (slat_text v.design.test design die logs)) logs_are

  pub slat_pattern_got : (w : ℕ) → slat_pattern_get deeds design die revision w ≡ pattern_page v.design.test (facts_of v.logs) w
  slat_pattern_got w =
      die_got deeds design die (Some revision) v (λ t texts. pattern_page t (logs_of_texts t design die texts) w) looked there view.design named
      ∙ ap (λ (logs : List LogFacts). pattern_page v.design.test logs w) logs_are

pub page_there : (lines : List (List ℕ)) (from : ℕ) → 1 ≤ from → from ≤ length lines → page_of_lines lines from ≡ plain status.Ok (page_of lines from)
page_there lines from low high = grind arith

pub page_past : (lines : List (List ℕ)) (from : ℕ) → ¬ ((1 ≤ from) × (from ≤ length lines)) → page_of_lines lines from ≡ plain status.NotFound (unknown_line_body (length lines))
page_past lines from none = grind (arith, none)

-- ---- who signed

abbrev IsTagged : SignOff → Type 0
IsTagged sign = is_tag sign.signer ≡ true

abbrev IfTagged : Option SignOff → Type 0
IfTagged (Some sign) = IsTagged sign
IfTagged None = ⊤

one_tagged : (before : List Deed) (what : DeedKind) (d x : List ℕ) → fits before what ≡ true → IfTagged (sign_in d x what)
one_tagged before (Design n t) d x one = tt
one_tagged before (Log n m t) d x one = tt
one_tagged before (Sign design die revision signer digest) d x one = go (bytes_eq design d && bytes_eq die x)
  where
    go : (b : Bool) → IfTagged (if b then Some (record { revision = revision; signer = signer; digest = digest }) else None)
    go true = (both (is_tag signer) _ one).0
    go false = tt

all_one : (new : Option SignOff) → IfTagged new → All IsTagged (cons_option new [])
all_one None tagged = All-nil IsTagged
all_one (Some sign) tagged = All-cons IsTagged sign [] tagged (All-nil IsTagged)

all_tagged_more : (d x : List ℕ) (before : List Deed) (deed : Deed) → All IsTagged (die_signs before d x) → fits before deed.what ≡ true → All IsTagged (die_signs (before ++ deed ∷ []) d x)
all_tagged_more d x before deed now one =
    subst (λ ss. All IsTagged ss) (sym (signs-append before (deed ∷ []) d x))
    (All-append IsTagged (die_signs before d x) (cons_option (sign_in d x deed.what) []) now (all_one (sign_in d x deed.what) (one_tagged before deed.what d x one)))

all_tagged : (d x : List ℕ) (deeds : List Deed) → each_fits [] deeds ≡ true → All IsTagged (die_signs deeds d x)
all_tagged d x deeds legal = along (λ ds. All IsTagged (die_signs ds d x)) (all_tagged_more d x) [] deeds (All-nil IsTagged) legal

tag_short : (tag : List ℕ) → is_tag tag ≡ true → length tag ≤ 64
tag_short [] is = absurd (grind arith)
tag_short (b ∷ bs) is =
    let rest = both (is_letter b || is_digit b) (list_all is_tag_byte bs && nat_lt (length bs) 64) is in
    let short = (both (list_all is_tag_byte bs) (nat_lt (length bs) 64) rest.1).1 in
    grind (arith, short)

from_numbered : (signs : List SignOff) (number : ℕ) (sign : SignOff) → sign_numbered signs number ≡ Ok sign → slice_get signs (number - 1) ≡ Some sign
from_numbered signs zero sign is = absurd (grind arith)
from_numbered signs (suc n) sign is = go (slice_get signs (suc n - 1)) refl
  where
    go : (o : Option SignOff) → slice_get signs (suc n - 1) ≡ o → slice_get signs (suc n - 1) ≡ Some sign
    go o at = grind (arith, common_steps)

from_get : {X : Type 0} (P : X → Type 0) (xs : List X) (i : ℕ) (x : X) → All P xs → slice_get xs i ≡ Some x → P x
from_get P xs i x all is = subst P (get_or_from_slice_get xs i x x is) (All-get_or P xs i x (slice_get_within xs i x is) all)

-- the sign-offs of legal deeds were signed by tags
pub signer_is_tag : (limit : ℕ) (deeds : List Deed) (d x : List ℕ) (number : ℕ) (sign : SignOff) → is_legal limit deeds ≡ true → sign_look deeds d x number ≡ Ok sign → is_tag sign.signer ≡ true
signer_is_tag limit deeds d x number sign legal is =
    let found = has_die deeds d x (λ logs. sign_numbered (die_signs deeds d x) number) sign is in
    from_get IsTagged (die_signs deeds d x) (number - 1) sign (all_tagged d x deeds (both _ (each_fits [] deeds) legal).1) (from_numbered (die_signs deeds d x) number sign found.1)

pub signer_is_short : (limit : ℕ) (deeds : List Deed) (d x : List ℕ) (number : ℕ) (sign : SignOff) → is_legal limit deeds ≡ true → sign_look deeds d x number ≡ Ok sign → length sign.signer ≤ 64
signer_is_short limit deeds d x number sign legal is = tag_short sign.signer (signer_is_tag limit deeds d x number sign legal is)
