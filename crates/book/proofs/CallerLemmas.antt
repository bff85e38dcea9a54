-- What a caller of the book may rest on.
use Rattle.std.proofs.Common.{◌≡◌, ◌∙◌, sym, ap, subst, List, ℕ, Some, Ok}
use Rattle.scan_model.specs.ScanTest.{ScanTest}
use Rattle.scan_model.specs.LogText.{log_frame, log_reading}
use Rattle.desk_outside.specs.declared.deed.Deed.{Deed}
use Rattle.diagnosis.specs.Designs.{DesignFacts, IsDesign, ReadLogFacts, StandsOver}
use Rattle.book.specs.Deeds.{design_test, test_of_text, test_of_reading}
use Rattle.book.specs.Answers.{design_look}
use Rattle.book.specs.Changes.{StandsIn}
use Rattle.book.proofs.Looking.{design_there}

some_same : (a b : ScanTest) → Some a ≡ Some b → a ≡ b
some_same a b e = cc

-- a log of the design that a look found stands in the book
pub stands_in_book : (deeds : List Deed) (d : DesignFacts) (log : ReadLogFacts) → IsDesign d → design_look deeds d.name ≡ Ok d.text → log.design ≡ d.name → StandsOver d.test log → StandsIn deeds log
stands_in_book deeds d log design looked of stands t is =
    let found : design_test deeds log.design ≡ Some d.test = ap (design_test deeds) of ∙ ap test_of_text (design_there deeds d.name d.text looked) ∙ ap test_of_reading design.stands in
    subst (λ test. StandsOver test log) (some_same d.test t (sym found ∙ is)) stands

-- a log that is kept behind a reference stands in the book too, where its design was seen twice
pub log_stands_in_book : (deeds : List Deed) (found seen again : DesignFacts) (log kept : ReadLogFacts) (name die text : List ℕ) → seen ≡ found → again ≡ found → IsDesign seen
    → design_look deeds name ≡ Ok found.text → found.name ≡ name → log.design ≡ again.name → log.die ≡ die → log.text ≡ text
    → log_reading (log_frame again.test again.name die) text ≡ Ok log.facts → kept ≡ log → StandsIn deeds kept
log_stands_in_book deeds found seen again log kept name die text first second design looked named of_design of_die of_text reading same =
    let here = subst (λ (d : DesignFacts). log_reading (log_frame d.test d.name die) text ≡ Ok log.facts) second reading in
    let its_name : log.design ≡ found.name = of_design ∙ ap (λ (d : DesignFacts). d.name) second in
    let stands : StandsOver found.test log = rw (its_name, of_die, of_text) here in
    subst (StandsIn deeds) (sym same)
    (stands_in_book deeds found log (subst IsDesign first design) (subst (λ n. design_look deeds n ≡ Ok found.text) (sym named) looked) its_name stands)
