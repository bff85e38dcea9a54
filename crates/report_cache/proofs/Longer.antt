-- Kept reports that are true for a list of deeds are true for each longer one.
use Rattle.std.proofs.Common.{◌≡◌, ◌≤◌, ◌+◌, ℕ, List, ◌++◌, length, take, All, Option, Some, None, sym, ap, subst, ◌∙◌, refl, arith, length-append}
use Rattle.std.specs.Prelude.{IfSome}
use Rattle.std.proofs.lemmas.List.{take-append-le}
use Rattle.scan_model.specs.declared.logs.LogFacts.{LogFacts}
use Rattle.scan_model.specs.ScanTest.{ScanTest}
use Rattle.scan_model.specs.DieReport.{logs_of_texts}
use Rattle.scan_model.specs.ReportText.{report_lines}
use Rattle.desk_outside.specs.declared.deed.Deed.{Deed}
use Rattle.book.specs.Deeds.{design_text, design_test, test_of_text, die_logs}
use Rattle.book.proofs.Longer.{text_stays, logs-append}
use Rattle.slat_view.specs.WholeCounts.{IsWholeOf}
use Rattle.report_cache.specs.Truth.{CacheFacts, KeptReport, HoldsOf, AreLinesIn, IsSlatIn, IsReportIn, IsTrueFor}

text_there : (known : Option (List ℕ)) (test : ScanTest) → test_of_text known ≡ Some test → (text : List ℕ) × (known ≡ Some text)
text_there (Some text) test is = (text, refl)
text_there None test is = absurd cc

test_stays : (deeds more : List Deed) (name : List ℕ) (test : ScanTest) → design_test deeds name ≡ Some test → design_test (deeds ++ more) name ≡ Some test
test_stays deeds more name test is =
    let there = text_there (design_text deeds name) test is in
    ap test_of_text (text_stays deeds more name there.0 there.1 ∙ sym there.1) ∙ is

-- what holds of a die's first logs holds of them among more deeds
holds_longer : (deeds more : List Deed) (name die : List ℕ) (revision : ℕ) (P : ScanTest → List LogFacts → Type 0) → HoldsOf deeds name die revision P → HoldsOf (deeds ++ more) name die revision P
holds_longer deeds more name die revision P is =
    let logs = die_logs deeds name die in
    let others = die_logs more name die in
    let both : die_logs (deeds ++ more) name die ≡ logs ++ others = logs-append deeds more name die in
    let long : length (logs ++ others) ≡ length logs + length others = length-append logs others in
    let first : take revision (die_logs (deeds ++ more) name die) ≡ take revision logs = ap (take revision) both ∙ take-append-le revision logs others is.logs in
    record {
      test = is.test;
      design = test_stays deeds more name is.test is.design;
      logs = subst (λ (ls : List (List ℕ)). revision ≤ length ls) (sym both) (omega (arith, long, is.logs));
      holds = subst (λ (texts : List (List ℕ)). P is.test (logs_of_texts is.test name die texts)) (sym first) is.holds;
    }

if_kept : {X : Type 0} (P Q : X → Type 0) (kept : Option X) → IfSome kept P → ((x : X) → P x → Q x) → IfSome kept Q
if_kept P Q (Some x) is step = step x is
if_kept P Q None is step = tt

pub report_stays : (deeds more : List Deed) (kept : KeptReport) → IsReportIn deeds kept → IsReportIn (deeds ++ more) kept
report_stays deeds more kept is = record {
  lines = if_kept (AreLinesIn deeds kept) (AreLinesIn (deeds ++ more) kept) kept.lines is.lines
      (λ lines held. holds_longer deeds more kept.design kept.die kept.revision (λ t logs. lines ≡ report_lines t kept.design kept.die logs) held);
  slat = if_kept (IsSlatIn deeds kept) (IsSlatIn (deeds ++ more) kept) kept.slat is.slat
      (λ slat held. holds_longer deeds more kept.design kept.die kept.revision (λ t logs. IsWholeOf t logs slat) held);
}

pub true_longer : (cache : CacheFacts) (deeds more : List Deed) → IsTrueFor cache deeds → IsTrueFor cache (deeds ++ more)
true_longer cache deeds more is k d lt = report_stays deeds more _ (is k d lt)
