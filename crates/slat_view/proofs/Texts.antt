-- Lines that are put behind a text, one after another.
use Rattle.std.proofs.Common.{◌≡◌, ℕ, ◌+◌, ◌<◌, List, [], ◌∷◌, ◌++◌, length, map, take, get_or, Result, Ok, Err, sym, ap, subst, ◌∙◌, append_assoc, append-nil, arith}
use Rattle.std.specs.Prelude.{OnOk}
use Rattle.std.proofs.lemmas.List.{map-append, take_more}
use Rattle.std.proofs.lemmas.List.Concat.{flat_map-append}
use Rattle.scan_model.specs.declared.fault.Fault.{Fault}
use Rattle.scan_model.specs.declared.fault.Fault.TheVariants.{Stem, Branch, Bridge, Cell}
use Rattle.scan_model.specs.ScanTest.{ScanTest}
use Rattle.scan_model.specs.ReportText.{concatenated, fault_words}
use Rattle.slat_view.specs.SlatText.{AddsText}

-- a fault has words
pub words_there : (t : ScanTest) (f : Fault) → 0 < length (fault_words t f)
words_there t (Stem n v) = omega arith
words_there t (Branch p v) = omega arith
words_there t (Bridge a b kind) = omega arith
words_there t (Cell h i kind) = omega arith

-- a line whose words are written, and that is ended
pub line_ended : {T E : Type 0} (r : Result T E) (old new text words : List ℕ) → text ≡ old ++ words → OnOk r (new ≡ text ++ 10 ∷ []) → OnOk r (AddsText ((words ++ 10 ∷ []) ∷ []) old new)
line_ended (Ok x) old new text words written ended =
    ended ∙ ap (λ (bs : List ℕ). bs ++ 10 ∷ []) written ∙ append_assoc old words (10 ∷ []) ∙ ap (λ (bs : List ℕ). old ++ bs) (sym (append-nil (words ++ 10 ∷ [])))
line_ended (Err e) old new text words written ended = tt

pub both_added : (ls ms : List (List ℕ)) (a b c : List ℕ) → AddsText ls a b → AddsText ms b c → AddsText (ls ++ ms) a c
both_added ls ms a b c first then =
    then ∙ ap (λ (bs : List ℕ). bs ++ concatenated ms) first ∙ append_assoc a (concatenated ls) (concatenated ms) ∙ ap (λ (bs : List ℕ). a ++ bs) (sym (flat_map-append (λ (piece : List ℕ). piece) ls ms))

-- the line of one more item
pub mapped_more : {X : Type 0} (f : X → List ℕ) (xs : List X) (k : ℕ) (d : X) (a b c : List ℕ) → k < length xs → AddsText (map f (take k xs)) a b → AddsText (f (get_or xs k d) ∷ []) b c → AddsText (map f (take (k + 1) xs)) a c
mapped_more f xs k d a b c lt first then =
    let e : map f (take (k + 1) xs) ≡ map f (take k xs) ++ f (get_or xs k d) ∷ [] = ap (map f) (take_more xs k d lt) ∙ map-append f (take k xs) (get_or xs k d ∷ []) in
    subst (λ (ls : List (List ℕ)). AddsText ls a c) (sym e) (both_added (map f (take k xs)) (f (get_or xs k d) ∷ []) a b c first then)

-- what stands in a text that was empty before
pub text_written : (ls : List (List ℕ)) (a b : List ℕ) → a ≡ [] → AddsText ls a b → b ≡ concatenated ls
text_written ls a b none adds = adds ∙ ap (λ (bs : List ℕ). bs ++ concatenated ls) none
