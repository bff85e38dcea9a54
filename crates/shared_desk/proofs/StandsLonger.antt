-- What stands in a list of deeds stands in each longer one.
use Rattle.std.proofs.Common.{◌≡◌, ◌≤◌, ℕ, List, ◌++◌, length, take, Some, sym, ap, ◌∙◌, subst, arith}
use mathlib.Core.List.{IsPrefix}
use Rattle.std.proofs.lemmas.List.{take-append-le, length-take, length-map}
use Rattle.desk_outside.specs.declared.deed.Deed.{Deed}
use Rattle.diagnosis.specs.Designs.{ReadLogFacts, ViewFacts}
use Rattle.book.specs.Deeds.{design_text, test_of_text, die_logs}
use Rattle.book.specs.Changes.{StandsIn, IsViewIn}
use Rattle.book.proofs.Longer.{text_stays, logs-append}

-- a log whose design is there
pub stands_longer : (deeds more : List Deed) (log : ReadLogFacts) (text : List ℕ) → design_text deeds log.design ≡ Some text → StandsIn deeds log → StandsIn (deeds ++ more) log
stands_longer deeds more log text there stands t is =
    stands t (ap test_of_text (there ∙ sym (text_stays deeds more log.design text there)) ∙ is)

-- a view
pub view_longer : (deeds more : List Deed) (v : ViewFacts) → IsViewIn deeds v → IsViewIn (deeds ++ more) v
view_longer deeds more v view =
    let n = length v.logs in
    let logs = die_logs deeds v.design.name v.die in
    let short : n ≡ length (take n logs) = sym (length-map v.logs (λ (log : ReadLogFacts). log.text)) ∙ ap length view.logs in
    let cut = length-take n logs in
    let within : n ≤ length logs = omega arith in
    record {
      design = text_stays deeds more v.design.name v.design.text view.design;
      logs = view.logs ∙ (sym (take-append-le n logs (die_logs more v.design.name v.die) within) ∙ sym (ap (take n) (logs-append deeds more v.design.name v.die)));
    }

-- a log stands in a list that begins with deeds in which it stands, and so does a view
pub stands_after : (deeds later : List Deed) (log : ReadLogFacts) (text : List ℕ) → IsPrefix deeds later → design_text deeds log.design ≡ Some text → StandsIn deeds log → StandsIn later log
stands_after deeds later log text p there stands = subst (λ (ds : List Deed). StandsIn ds log) p.1 (stands_longer deeds p.0 log text there stands)

pub view_after : (deeds later : List Deed) (v : ViewFacts) → IsPrefix deeds later → IsViewIn deeds v → IsViewIn later v
view_after deeds later v p view = subst (λ (ds : List Deed). IsViewIn ds v) p.1 (view_longer deeds p.0 v view)
