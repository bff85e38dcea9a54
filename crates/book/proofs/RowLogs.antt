-- A row that puts a log.
use Rattle.std.proofs.Common.{◌≡◌, ℕ, Bool, true, false, not, ◌&&◌, List, Option, Some, Ok, Err, refl, sym, ap, ◌∙◌, subst, arith}
use Rattle.std.specs.Result.{is_ok}
use Rattle.desk_outside.specs.declared.deed.Deed.{Deed}
use Rattle.scan_model.specs.ScanTest.{ScanTest}
use Rattle.scan_model.specs.LogText.{log_frame, log_reading}
use Rattle.scan_model.specs.Words.{is_tag, has_word}
use Rattle.diagnosis.specs.Designs.{DesignFacts, ReadLogFacts, IsDesign}
use Rattle.book.specs.Deeds.{design_test, test_of_text, test_of_reading, die_logs}
use Rattle.book.specs.LegalDeeds.{is_log_over}
use Rattle.book.specs.Changes.{StandsIn}
use Rattle.book.specs.Lookups.{IsFound}

test_found : (deeds : List Deed) (inner d : DesignFacts) (asked : List ℕ) (number : ℕ) → inner ≡ d → IsDesign inner → IsFound deeds asked number d → design_test deeds asked ≡ Some inner.test
test_found deeds inner d asked number same design found =
    ap test_of_text (found.text ∙ ap (λ (v : DesignFacts). Some v.text) (sym same)) ∙ ap test_of_reading design.stands

name_found : (deeds : List Deed) (inner d : DesignFacts) (asked : List ℕ) (number : ℕ) → inner ≡ d → IsFound deeds asked number d → inner.name ≡ asked
name_found deeds inner d asked number same found = ap (λ (v : DesignFacts). v.name) same ∙ found.named

pub row_stands : (deeds : List Deed) (inner d : DesignFacts) (asked die text : List ℕ) (number : ℕ) (log : ReadLogFacts) → inner ≡ d → IsDesign inner → IsFound deeds asked number d → log.design ≡ inner.name → log.die ≡ die → log.text ≡ text
    → log_reading (log_frame inner.test inner.name die) text ≡ Ok log.facts → StandsIn deeds log
row_stands deeds inner d asked die text number log same design found of_design of_die of_text reading t is =
    let known = test_found deeds inner d asked number same design found in
    let name = of_design ∙ name_found deeds inner d asked number same found in
    let tests : Some t ≡ Some inner.test = sym is ∙ ap (design_test deeds) name ∙ known in
    ap (λ (u : ScanTest). log_reading (log_frame u log.design log.die) log.text) (inside tests)
    ∙ ap (λ (n : List ℕ). log_reading (log_frame inner.test n log.die) log.text) of_design
    ∙ ap (λ (x : List ℕ). log_reading (log_frame inner.test inner.name x) log.text) of_die
    ∙ ap (λ (b : List ℕ). log_reading (log_frame inner.test inner.name die) b) of_text
    ∙ reading
  where
    inside : {u v : ScanTest} → Some u ≡ Some v → u ≡ v
    inside e = cc

over_is : (deeds : List Deed) (inner d : DesignFacts) (asked die text : List ℕ) (number : ℕ) → inner ≡ d → IsDesign inner → IsFound deeds asked number d
    → is_log_over (design_test deeds asked) asked die text ≡ is_ok (log_reading (log_frame inner.test inner.name die) text)
over_is deeds inner d asked die text number same design found =
    ap (λ (o : Option ScanTest). is_log_over o asked die text) (test_found deeds inner d asked number same design found)
    ∙ ap (λ (n : List ℕ). is_ok (log_reading (log_frame inner.test n die) text)) (sym (name_found deeds inner d asked number same found))

both_are : (a b c : Bool) → a ≡ true → b ≡ true → c ≡ false → (a && (b && not c)) ≡ true
both_are a b c p q r = grind arith

not_both : (a b c : Bool) → b ≡ false → (a && (b && c)) ≡ false
not_both true b c q = grind arith
not_both false b c q = refl

pub row_fits : (deeds : List Deed) (inner d : DesignFacts) (asked name die text : List ℕ) (number : ℕ) (log : ReadLogFacts) → inner ≡ d → IsDesign inner → IsFound deeds asked number d → is_tag die ≡ true → name ≡ asked
    → has_word (die_logs deeds name die) text ≡ false → log_reading (log_frame inner.test inner.name die) text ≡ Ok log.facts
    → (is_tag die && (is_log_over (design_test deeds asked) asked die text && not (has_word (die_logs deeds asked die) text))) ≡ true
row_fits deeds inner d asked name die text number log same design found tag is new reading =
    both_are (is_tag die) (is_log_over (design_test deeds asked) asked die text) (has_word (die_logs deeds asked die) text) tag
    (over_is deeds inner d asked die text number same design found ∙ ap is_ok reading)
    (subst (λ (n : List ℕ). has_word (die_logs deeds n die) text ≡ false) is new)

pub row_refused : (deeds : List Deed) (inner d : DesignFacts) (asked die text : List ℕ) (number line rule : ℕ) → inner ≡ d → IsDesign inner → IsFound deeds asked number d
    → log_reading (log_frame inner.test inner.name die) text ≡ Err (line, rule)
    → (is_tag die && (is_log_over (design_test deeds asked) asked die text && not (has_word (die_logs deeds asked die) text))) ≡ false
row_refused deeds inner d asked die text number line rule same design found reading =
    not_both (is_tag die) (is_log_over (design_test deeds asked) asked die text) (not (has_word (die_logs deeds asked die) text))
    (over_is deeds inner d asked die text number same design found ∙ ap is_ok reading)
