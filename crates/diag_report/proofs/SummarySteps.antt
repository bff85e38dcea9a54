-- The lines of a summary, one after another.
use Rattle.std.proofs.Common.{◌≡◌, ℕ, ◌+◌, ◌<◌, List, [], ◌∷◌, ◌++◌, length, map, take, get_or, ap, sym, subst, ◌∙◌}
use Rattle.std.proofs.lemmas.List.{map-append, take_more}
use Rattle.scan_model.specs.ReportText.{concatenated}
use Rattle.report_lines.specs.declared.draft.Draft.{Draft}
use Rattle.report_lines.specs.LineEnds.{AddsLines}
use Rattle.diag_report.specs.Summary.{count_line}
use Rattle.report_lines.proofs.LineSteps.{both_added}

-- one more line with a count
pub count_added : (ls : List (List ℕ)) (word : List ℕ) (n m : ℕ) (a b c : Draft) → n ≡ m → AddsLines ls a b → AddsLines (count_line word n ∷ []) b c → AddsLines (ls ++ count_line word m ∷ []) a c
count_added ls word n m a b c same first then = both_added ls (count_line word m ∷ []) a b c first (subst (λ (k : ℕ). AddsLines (count_line word k ∷ []) b c) same then)

-- what stands in a text that was empty before
pub text_written : (ls : List (List ℕ)) (a b : Draft) → a.text ≡ [] → a.ends ≡ [] → AddsLines ls a b → b.text ≡ concatenated ls
text_written ls a b no_text no_ends adds = (adds.added [] (record { text_is = no_text; ends_are = no_ends })).text_is

-- the line of one more item
pub mapped_more : {X : Type 0} (f : X → List ℕ) (xs : List X) (k : ℕ) (d : X) (a b c : Draft) → k < length xs → AddsLines (map f (take k xs)) a b → AddsLines (f (get_or xs k d) ∷ []) b c → AddsLines (map f (take (k + 1) xs)) a c
mapped_more f xs k d a b c lt first then =
    let e : map f (take (k + 1) xs) ≡ map f (take k xs) ++ f (get_or xs k d) ∷ [] = ap (map f) (take_more xs k d lt) ∙ map-append f (take k xs) (get_or xs k d ∷ []) in
    subst (λ (ls : List (List ℕ)). AddsLines ls a c) (sym e) (both_added (map f (take k xs)) (f (get_or xs k d) ∷ []) a b c first then)
