-- Deeds that fit.
use Rattle.std.proofs.Common.{◌≡◌, ℕ, ◌<◌, ◌≤◌, min, nat_le, take, rules, Bool, true, false, not, ◌&&◌, cond, is_some, IfSome, List, [], length, Option, Some, None, refl, sym, ap, ◌∙◌, subst, arith}
use Rattle.std.specs.List.{list_any}
use Rattle.std.specs.Str.{bytes_eq}
use Rattle.std.proofs.lemmas.Grind.{common_steps}
use Rattle.desk_outside.specs.declared.deed.Deed.{Deed}
use Rattle.scan_model.specs.ScanTest.{ScanTest}
use Rattle.scan_model.specs.Words.{is_tag}
use Rattle.diagnosis.specs.declared.put.Put.{Put}
use Rattle.diagnosis.specs.declared.put.Put.TheVariants.{Created, Same}
use Rattle.std.proofs.lemmas.List.{length-take, length-map}
use Rattle.sha2.specs.Sha256.{sha256}
use Rattle.desk_outside.specs.declared.deed.DeedKind.TheVariants.{Sign}
use Rattle.scan_model.specs.DieReport.{die_report}
use Rattle.diagnosis.specs.Designs.{DesignFacts, ReadLogFacts, ViewFacts, IsDesign, StandsOver, texts_of, view_report}
use Rattle.book.specs.Deeds.{design_text, design_test, test_of_text, test_of_reading, die_logs, die_signs, report_over, report_at}
use Rattle.book.specs.LegalDeeds.{fits, each_fits, is_log_over}
use Rattle.book.specs.Changes.{StandsIn, IsViewIn}
use Rattle.book.specs.Kinds.{design_deed, log_deed}
use Rattle.die_entries.specs.Entries.{is_signed_by, put_where}
use Rattle.book.proofs.LegalLists.{test_known}

-- the log stands over the test that is known
stands_over : (known : Option ScanTest) (t : ScanTest) (log : ReadLogFacts) → known ≡ Some t → StandsOver t log → is_log_over known log.design log.die log.text ≡ true
stands_over (Some u) t log is over = grind (arith, common_steps, is, over)
stands_over None t log is over = grind (arith, common_steps, is)

pub log_fits : (deeds : List Deed) (by : ℕ) (log : ReadLogFacts) (text : List ℕ) (number : ℕ) → each_fits [] deeds ≡ true → is_tag log.die ≡ true → design_text deeds log.design ≡ Some text → StandsIn deeds log
    → put_where (bytes_eq log.text) (die_logs deeds log.design log.die) ≡ Created number → fits deeds (log_deed by log).what ≡ true
log_fits deeds by log text number legal tag is stands new =
    let known = test_known deeds log.design text legal is in
    let over : is_log_over (design_test deeds log.design) log.design log.die log.text ≡ true = stands_over (design_test deeds log.design) known.0 log known.1 (stands known.0 known.1) in
    grind (arith, common_steps, tag, over, new)

-- what is there
pub some_of : {X : Type 0} (o : Option X) (P : X → Type 0) → is_some o ≡ true → IfSome o P → (x : X) × P x
some_of (Some x) P some is = (x, is)
some_of None P some is = absurd (grind arith)

-- the report of a die in the book
pub report_in : (deeds : List Deed) (v : ViewFacts) → IsDesign v.design → IsViewIn deeds v → view_report v ≡ report_at deeds v.design.name v.die (length v.logs)
report_in deeds v design view =
    let known : design_test deeds v.design.name ≡ Some v.design.test = ap test_of_text view.design ∙ ap test_of_reading design.stands in
    ap (λ (texts : List (List ℕ)). die_report v.design.test v.design.name v.die texts) view.logs
    ∙ sym (ap (λ (o : Option ScanTest). report_over o v.design.name v.die (take (length v.logs) (die_logs deeds v.design.name v.die))) known)

view_short : (deeds : List Deed) (v : ViewFacts) → IsViewIn deeds v → length v.logs ≤ length (die_logs deeds v.design.name v.die)
view_short deeds v view =
    let many : length (texts_of v.logs) ≡ length v.logs = length-map v.logs (λ (log : ReadLogFacts). log.text) in
    let cut : length (take (length v.logs) (die_logs deeds v.design.name v.die)) ≡ min (length v.logs) (length (die_logs deeds v.design.name v.die)) = length-take (length v.logs) (die_logs deeds v.design.name v.die) in
    let same : length (texts_of v.logs) ≡ length (take (length v.logs) (die_logs deeds v.design.name v.die)) = ap length view.logs in
    omega (arith, many, cut, same)

leb_true : {a b : ℕ} → a ≤ b → nat_le a b ≡ true
leb_true le = search (rules, le)

none_signed : (b : Bool) (place count number : ℕ) → cond b (Same place) (Created count) ≡ Created number → not b ≡ true
none_signed false place count number new = refl
none_signed true place count number new = absurd (grind arith)

all_true : (a b c d e : Bool) → a ≡ true → b ≡ true → c ≡ true → d ≡ true → e ≡ true → (a && ((b && c) && (d && e))) ≡ true
all_true a b c d e p q r s t = grind arith

-- a new log fits, by the values that were read
pub log_fits_at : (deeds seen : List Deed) (by : ℕ) (log : ReadLogFacts) (design die text known : List ℕ) (same : Put) (number : ℕ) → each_fits [] deeds ≡ true → is_tag log.die ≡ true
    → seen ≡ deeds → design ≡ log.design → die ≡ log.die → text ≡ log.text → design_text deeds log.design ≡ Some known → StandsIn seen log
    → same ≡ put_where (bytes_eq text) (die_logs seen design die) → same ≡ Created number → fits deeds (log_deed by log).what ≡ true
log_fits_at deeds seen by log design die text known same number legal tag are of_design of_die of_text is stands put new =
    let at : put_where (bytes_eq text) (die_logs seen design die) ≡ put_where (bytes_eq log.text) (die_logs deeds log.design log.die) =
    ap (λ (s : List Deed). put_where (bytes_eq text) (die_logs s design die)) are
    ∙ ap (λ (d : List ℕ). put_where (bytes_eq text) (die_logs deeds d die)) of_design
    ∙ ap (λ (x : List ℕ). put_where (bytes_eq text) (die_logs deeds log.design x)) of_die
    ∙ ap (λ (t : List ℕ). put_where (bytes_eq t) (die_logs deeds log.design log.die)) of_text in
    log_fits deeds by log known number legal tag is (subst (λ (s : List Deed). StandsIn s log) are stands) (sym at ∙ sym put ∙ new)

pub sign_fits : (deeds : List Deed) (v : ViewFacts) (signer digest : List ℕ) (number : ℕ) → IsDesign v.design → IsViewIn deeds v → 0 < length v.logs → is_tag signer ≡ true
    → bytes_eq digest (sha256 (view_report v)) ≡ true → put_where (is_signed_by (length v.logs) signer) (die_signs deeds v.design.name v.die) ≡ Created number
    → fits deeds (Sign v.design.name v.die (length v.logs) signer digest) ≡ true
sign_fits deeds v signer digest number design view some tag right new =
    all_true _ _ _ _ _ tag (leb_true (omega arith)) (leb_true (view_short deeds v view)) (subst (λ (r : List ℕ). bytes_eq digest (sha256 r) ≡ true) (report_in deeds v design view) right) (none_signed (list_any (is_signed_by (length v.logs) signer) (die_signs deeds v.design.name v.die)) _ _ number new)

-- a new sign-off fits, by the values that were read
pub sign_fits_at : (deeds seen : List Deed) (v : ViewFacts) (design die signer who digest : List ℕ) (revision : ℕ) (same : Put) (number : ℕ) → IsDesign v.design → IsViewIn seen v → 0 < length v.logs → is_tag who ≡ true
    → bytes_eq digest (sha256 (view_report v)) ≡ true → seen ≡ deeds → design ≡ v.design.name → die ≡ v.die → revision ≡ length v.logs → signer ≡ who
    → same ≡ put_where (is_signed_by revision who) (die_signs seen design die) → same ≡ Created number
    → fits deeds (Sign design die revision signer digest) ≡ true
sign_fits_at deeds seen v design die signer who digest revision same number is view some tag right are of_design of_die of_logs of_who put new =
    let at : put_where (is_signed_by revision who) (die_signs seen design die) ≡ put_where (is_signed_by (length v.logs) who) (die_signs deeds v.design.name v.die) =
    ap (λ (s : List Deed). put_where (is_signed_by revision who) (die_signs s design die)) are
    ∙ ap (λ (d : List ℕ). put_where (is_signed_by revision who) (die_signs deeds d die)) of_design
    ∙ ap (λ (x : List ℕ). put_where (is_signed_by revision who) (die_signs deeds v.design.name x)) of_die
    ∙ ap (λ (r : ℕ). put_where (is_signed_by r who) (die_signs deeds v.design.name v.die)) of_logs in
    let whole : fits deeds (Sign v.design.name v.die (length v.logs) who digest) ≡ true =
    sign_fits deeds v who digest number is (subst (λ (s : List Deed). IsViewIn s v) are view) some tag right (sym at ∙ sym put ∙ new) in
    ap (λ (d : List ℕ). fits deeds (Sign d die revision signer digest)) of_design
    ∙ ap (λ (x : List ℕ). fits deeds (Sign v.design.name x revision signer digest)) of_die
    ∙ ap (λ (r : ℕ). fits deeds (Sign v.design.name v.die r signer digest)) of_logs
    ∙ ap (λ (w : List ℕ). fits deeds (Sign v.design.name v.die (length v.logs) w digest)) of_who
    ∙ whole
