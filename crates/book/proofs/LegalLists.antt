-- What holds of each legal list of deeds.
use Rattle.std.proofs.Common.{◌≡◌, ℕ, Bool, true, ◌&&◌, List, [], ◌∷◌, ◌++◌, Option, Some, None, Result, Ok, Err, refl, sym, ap, ◌∙◌, subst, append_assoc, arith}
use Rattle.std.specs.Result.{is_ok}
use Rattle.std.proofs.lemmas.Grind.{common_steps}
use Rattle.std.proofs.lemmas.List.{append-nil}
use Rattle.desk_outside.specs.declared.deed.Deed.{Deed}
use Rattle.desk_outside.specs.declared.deed.DeedKind.{DeedKind}
use Rattle.desk_outside.specs.declared.deed.DeedKind.TheVariants.{Design, Log, Sign}
use Rattle.scan_model.specs.ScanTest.{ScanTest}
use Rattle.diagnosis.specs.Bundle.{bundle_reading}
use Rattle.book.specs.Deeds.{design_text, design_test, test_of_text, test_of_reading}
use Rattle.book.specs.LegalDeeds.{fits, each_fits}
use Rattle.book.proofs.Longer.{or_else, text-append}

pub both : (a b : Bool) → (a && b) ≡ true → (a ≡ true) × (b ≡ true)
both a b h = grind arith

-- what each deed that fits keeps
pub along : (P : List Deed → Type 0) → ((before : List Deed) (deed : Deed) → P before → fits before deed.what ≡ true → P (before ++ deed ∷ []))
    → (before deeds : List Deed) → P before → each_fits before deeds ≡ true → P (before ++ deeds)
along P step before [] now legal = subst P (sym (append-nil before)) now
along P step before (deed ∷ deeds) now legal =
    let parts = both (fits before deed.what) (each_fits (before ++ deed ∷ []) deeds) legal in
    subst P (append_assoc before (deed ∷ []) deeds) (along P step (before ++ deed ∷ []) deeds (step before deed now parts.0) parts.1)

-- ---- each design's bundle was read

abbrev Reads : List ℕ → List Deed → Type 0
Reads name deeds = (text : List ℕ) → design_text deeds name ≡ Some text → is_ok (bundle_reading text) ≡ true

reads_one : (name : List ℕ) (before : List Deed) (by : ℕ) (what : DeedKind) (text : List ℕ) → fits before what ≡ true → design_text (record { by = by; what = what } ∷ []) name ≡ Some text → is_ok (bundle_reading text) ≡ true
reads_one name before by (Design n t) text one is = grind (arith, common_steps)
reads_one name before by (Log d x t) text one is = grind (arith, common_steps)
reads_one name before by (Sign d x r s g) text one is = grind (arith, common_steps)

reads_more : (name : List ℕ) (known : Option (List ℕ)) (before : List Deed) (deed : Deed) (text : List ℕ) → design_text before name ≡ known → Reads name before → fits before deed.what ≡ true
    → or_else known (design_text (deed ∷ []) name) ≡ Some text → is_ok (bundle_reading text) ≡ true
reads_more name (Some t) before deed text was now one is = now text (was ∙ is)
reads_more name None before deed text was now one is = reads_one name before deed.by deed.what text one is

pub reads : (name : List ℕ) (deeds : List Deed) → each_fits [] deeds ≡ true → Reads name deeds
reads name deeds legal =
    along (Reads name)
    (λ before deed now one text is. reads_more name (design_text before name) before deed text refl now one (sym (text-append before (deed ∷ []) name) ∙ is))
    [] deeds (λ text is. grind (arith, common_steps)) legal

-- so each design has its test
test_of_ok : {E : Type 0} (r : Result ScanTest E) → is_ok r ≡ true → (t : ScanTest) × (test_of_reading r ≡ Some t)
test_of_ok (Ok t) ok = (t, refl)
test_of_ok (Err e) ok = absurd (grind arith)

pub test_known : (deeds : List Deed) (name text : List ℕ) → each_fits [] deeds ≡ true → design_text deeds name ≡ Some text → (t : ScanTest) × (design_test deeds name ≡ Some t)
test_known deeds name text legal is =
    let found = test_of_ok (bundle_reading text) (reads name deeds legal text is) in
    (found.0, ap test_of_text is ∙ found.1)
