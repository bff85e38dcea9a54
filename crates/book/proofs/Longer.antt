-- What longer lists of deeds have.
use Rattle.std.proofs.Common.{◌≡◌, ℕ, List, [], ◌∷◌, ◌++◌, ◌≤◌, length, take, Option, Some, None, refl, sym, ap, ◌∙◌}
use Rattle.std.specs.List.{filter_map, slice_get}
use Rattle.std.proofs.lemmas.List.Elements.{filter_map-append}
use Rattle.desk_outside.specs.declared.deed.Deed.{Deed}
use Rattle.std.proofs.lemmas.List.{take-append-le}
use Rattle.book.specs.Deeds.{test_of_text, design_test, report_over, report_at, design_in, log_in, sign_in, designs, text_if_named, design_text, die_logs, die_signs}

pub logs-append : (deeds more : List Deed) (d x : List ℕ) → die_logs (deeds ++ more) d x ≡ die_logs deeds d x ++ die_logs more d x
logs-append deeds more d x = filter_map-append (λ deed. log_in d x deed.what) deeds more

pub signs-append : (deeds more : List Deed) (d x : List ℕ) → die_signs (deeds ++ more) d x ≡ die_signs deeds d x ++ die_signs more d x
signs-append deeds more d x = filter_map-append (λ deed. sign_in d x deed.what) deeds more

-- the first of two, where it is there
abbrev pub or_else : {X : Type 0} → Option X → Option X → Option X
or_else (Some x) other = Some x
or_else None other = other

first-append : {X : Type 0} (xs ys : List X) → slice_get (xs ++ ys) 0 ≡ or_else (slice_get xs 0) (slice_get ys 0)
first-append [] ys = refl
first-append (x ∷ xs) ys = refl

-- the first design of a name counts
pub text-append : (deeds more : List Deed) (name : List ℕ) → design_text (deeds ++ more) name ≡ or_else (design_text deeds name) (design_text more name)
text-append deeds more name =
    ap (λ ds. slice_get (filter_map (text_if_named name) ds) 0) (filter_map-append (λ deed. design_in deed.what) deeds more)
    ∙ ap (λ ts. slice_get ts 0) (filter_map-append (text_if_named name) (designs deeds) (designs more))
    ∙ first-append (filter_map (text_if_named name) (designs deeds)) (filter_map (text_if_named name) (designs more))

-- so a text that is there stays
pub text_stays : (deeds more : List Deed) (name text : List ℕ) → design_text deeds name ≡ Some text → design_text (deeds ++ more) name ≡ Some text
text_stays deeds more name text is = text-append deeds more name ∙ ap (λ o. or_else o (design_text more name)) is

-- a report stays
pub report_stays : (deeds more : List Deed) (d x text : List ℕ) (revision : ℕ) → design_text deeds d ≡ Some text → revision ≤ length (die_logs deeds d x)
    → report_at (deeds ++ more) d x revision ≡ report_at deeds d x revision
report_stays deeds more d x text revision is within =
    ap (λ (o : Option (List ℕ)). report_over (test_of_text o) d x (take revision (die_logs (deeds ++ more) d x))) (text_stays deeds more d text is ∙ sym is)
    ∙ ap (λ (logs : List (List ℕ)). report_over (design_test deeds d) d x logs)
    (ap (take revision) (logs-append deeds more d x) ∙ take-append-le revision (die_logs deeds d x) (die_logs more d x) within)
