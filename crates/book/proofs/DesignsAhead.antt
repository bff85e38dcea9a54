-- Designs of reports that were made ahead.
use Rattle.std.proofs.Common.{◌≡◌, ℕ, ◌<◌, List, [], ◌∷◌, ◌++◌, length, take, drop, All, Option, Some, None, Result, Ok, Err, IfOk, IfSome, sym, ap, ◌∙◌, subst, arith}
use Rattle.std.specs.Prelude.{slice_index_or}
use Rattle.std.proofs.lemmas.List.{take-append-le, take_all}
use Rattle.std.proofs.lemmas.List.Elements.{All-weaker}
use Rattle.desk_outside.specs.declared.deed.Deed.{Deed}
use Rattle.scan_model.specs.ScanTest.{ScanTest}
use Rattle.diagnosis.specs.Designs.{DesignFacts, ViewFacts, IsDesign}
use Rattle.die_entries.specs.Revisions.{IsOneByName}
use Rattle.book.specs.Deeds.{design_text, test_of_text, test_of_reading}
use Rattle.book.specs.Lookups.{IsFound}
use Rattle.book.specs.RowsAhead.{IsDesignIn}
use Rattle.book.proofs.Longer.{text_stays}

-- by the values that were read
pub found_in : (deeds : List Deed) (inner d : DesignFacts) (name : List ℕ) (number : ℕ) → inner ≡ d → IsDesign inner → IsFound deeds name number d → IsDesignIn deeds d
found_in deeds inner d name number same design found = record {
  design = subst IsDesign same design;
  text = subst (λ (n : List ℕ). design_text deeds n ≡ Some d.text) (sym found.named) found.text;
}

pub where_some : {X E : Type 0} (r : Result (Option X) E) (P Q : X → Type 0) → ((x : X) → P x → Q x) → IfOk r (λ o. IfSome o P) → IfOk r (λ o. IfSome o Q)
where_some (Ok (Some x)) P Q weaker is = weaker x is
where_some (Ok None) P Q weaker is = tt
where_some (Err e) P Q weaker is = tt

test_of : (deeds : List Deed) (d : DesignFacts) → IsDesignIn deeds d → test_of_text (design_text deeds d.name) ≡ Some d.test
test_of deeds d is = ap test_of_text is.text ∙ ap test_of_reading is.design.stands

-- two designs of one name have one scan test
one_by_name : (deeds : List Deed) (d e : DesignFacts) → IsDesignIn deeds d → IsDesignIn deeds e → e.name ≡ d.name → e.test ≡ d.test
one_by_name deeds d e is other named = inside (sym (test_of deeds e other) ∙ ap (λ (n : List ℕ). test_of_text (design_text deeds n)) named ∙ test_of deeds d is)
  where
    inside : {t u : ScanTest} → Some t ≡ Some u → t ≡ u
    inside h = cc

pub all_one : (deeds : List Deed) (d : DesignFacts) (dies : List ViewFacts) → IsDesignIn deeds d → All (λ die. IsDesignIn deeds die.design) dies → All (IsOneByName d) dies
all_one deeds d dies is all = All-weaker (λ (die : ViewFacts). IsDesignIn deeds die.design) (IsOneByName d) (λ die in_deeds. one_by_name deeds d die.design is in_deeds) dies all

-- they stay when a deed comes
designs_stay : (deeds : List Deed) (deed : Deed) (dies : List ViewFacts) → All (λ die. IsDesignIn deeds die.design) dies → All (λ die. IsDesignIn (deeds ++ deed ∷ []) die.design) dies
designs_stay deeds deed dies all =
    All-weaker (λ (die : ViewFacts). IsDesignIn deeds die.design) (λ (die : ViewFacts). IsDesignIn (deeds ++ deed ∷ []) die.design)
    (λ die is. record { design = is.design; text = text_stays deeds (deed ∷ []) die.design.name die.design.text is.text }) dies all

pub designs_after : (deeds : List Deed) (deed : Deed) (after : List Deed) (old new : List ViewFacts) → after ≡ deeds ++ deed ∷ [] → new ≡ old → All (λ die. IsDesignIn deeds die.design) old → All (λ die. IsDesignIn after die.design) new
designs_after deeds deed after old new is same all =
    subst (λ (ds : List Deed). All (λ (die : ViewFacts). IsDesignIn ds die.design) new) (sym is)
    (designs_stay deeds deed new (subst (λ (dies : List ViewFacts). All (λ (die : ViewFacts). IsDesignIn deeds die.design) dies) (sym same) all))

-- and when their reports are made
pub designs_kept : (deeds : List Deed) (dies made : List ViewFacts) → length made ≡ length dies → ((i : ℕ) (d : ViewFacts) → i < length dies → (slice_index_or made i d).design ≡ (slice_index_or dies i d).design)
    → All (λ die. IsDesignIn deeds die.design) dies → All (λ die. IsDesignIn deeds die.design) made
designs_kept deeds dies made count same all = λ i d within.
    let inside : i < length dies = subst (λ (n : ℕ). i < n) count within in
    subst (IsDesignIn deeds) (sym (same i d inside)) (all i d inside)

-- a list that is written over as a whole
pub written_over : {X : Type 0} (count : ℕ) (items made : List X) → length made ≡ length items → count ≡ length items → take count (made ++ drop (length made) items) ≡ made
written_over count items made same long = take-append-le count made (drop (length made) items) (omega (arith, same, long)) ∙ take_all count made (omega (arith, same, long))
