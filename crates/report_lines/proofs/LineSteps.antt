-- Lines that are written one after another, and their words.
use Rattle.std.proofs.Common.{◌≡◌, ℕ, zero, suc, ◌+◌, ◌<◌, ◌≤◌, List, [], ◌∷◌, ◌++◌, length, map, get_or, take, Result, Ok, Err, refl, sym, ap, subst, ◌∙◌, append_assoc, append-nil, arith}
use Rattle.std.specs.Prelude.{OnOk, All, slice_index_or}
use Rattle.std.specs.List.{enumerate_from}
use Rattle.std.proofs.lemmas.List.{length-append, map-append, take_more, length-take-le}
use Rattle.std.proofs.lemmas.List.Concat.{flat_map-append}
use Rattle.scan_model.specs.ReportText.{concatenated}
use Rattle.fault_universe.proofs.BitSteps.{enumerate_push}
use Rattle.report_lines.specs.declared.draft.Draft.{Draft}
use Rattle.report_lines.specs.LineEnds.{ends_from, HasLines, AddsLines, IsCut}

ends_push : (a : ℕ) (ls : List (List ℕ)) (l : List ℕ) → ends_from a (ls ++ l ∷ []) ≡ ends_from a ls ++ (a + length (concatenated ls) + length l) ∷ []
ends_push a [] l = ap (λ (n : ℕ). n ∷ []) (omega arith)
ends_push a (m ∷ ms) l =
    ap (λ (ns : List ℕ). (a + length m) ∷ ns)
    (ends_push (a + length m) ms l ∙ ap (λ (n : ℕ). ends_from (a + length m) ms ++ n ∷ []) (omega (arith, length-append m (concatenated ms))))

concatenated_push : (ls : List (List ℕ)) (l : List ℕ) → concatenated (ls ++ l ∷ []) ≡ concatenated ls ++ l
concatenated_push ls l = flat_map-append (λ piece. piece) ls (l ∷ []) ∙ ap (λ (bs : List ℕ). concatenated ls ++ bs) (append-nil l)

pub added_line : (old new : Draft) (l : List ℕ) → new.text ≡ old.text ++ l → new.ends ≡ old.ends ++ length new.text ∷ [] → AddsLines (l ∷ []) old new
added_line old new l text ends = record {
  added = λ before has.
      let whole : new.text ≡ concatenated before ++ l = text ∙ ap (λ (bs : List ℕ). bs ++ l) has.text_is in
      let len : length new.text ≡ 0 + length (concatenated before) + length l = ap length whole ∙ length-append (concatenated before) l ∙ omega arith in
      record {
        text_is = whole ∙ sym (concatenated_push before l);
        ends_are = ends ∙ ap (λ (ns : List ℕ). ns ++ length new.text ∷ []) has.ends_are ∙ ap (λ (n : ℕ). ends_from 0 before ++ n ∷ []) len ∙ sym (ends_push 0 before l);
      };
}

-- a line whose words are written, and that is ended
pub line_ended : {T E : Type 0} (r : Result T E) (old new : Draft) (text words : List ℕ) → text ≡ old.text ++ words → OnOk r (new.text ≡ text ++ 10 ∷ []) → OnOk r (new.ends ≡ old.ends ++ length new.text ∷ [])
    → OnOk r (AddsLines ((words ++ 10 ∷ []) ∷ []) old new)
line_ended (Ok x) old new text words written ended ends = added_line old new (words ++ 10 ∷ []) (ended ∙ ap (λ (bs : List ℕ). bs ++ 10 ∷ []) written ∙ append_assoc old.text words (10 ∷ [])) ends
line_ended (Err e) old new text words written ended ends = tt

pub none_added : (draft : Draft) → AddsLines [] draft draft
none_added draft = record { added = λ before has. subst (λ (ls : List (List ℕ)). HasLines ls draft.text draft.ends) (sym (append-nil before)) has }

pub both_added : (ls ms : List (List ℕ)) (a b c : Draft) → AddsLines ls a b → AddsLines ms b c → AddsLines (ls ++ ms) a c
both_added ls ms a b c first then = record {
  added = λ before has. subst (λ (ks : List (List ℕ)). HasLines ks c.text c.ends) (append_assoc before ls ms) (then.added (before ++ ls) (first.added before has));
}

-- the lines of one more numbered item
pub numbered_more : {X : Type 0} (f : ℕ × X → List ℕ) (first : ℕ) (xs : List X) (k : ℕ) (d : X) (a b c : Draft) → k < length xs → AddsLines (map f (enumerate_from first (take k xs))) a b → AddsLines (f (first + k, get_or xs k d) ∷ []) b c → AddsLines (map f (enumerate_from first (take (k + 1) xs))) a c
numbered_more f first xs k d a b c lt before then =
    let place : first + length (take k xs) ≡ first + k = omega (arith, length-take-le k xs (omega arith)) in
    let e : map f (enumerate_from first (take (k + 1) xs)) ≡ map f (enumerate_from first (take k xs)) ++ f (first + k, get_or xs k d) ∷ [] =
    ap (λ ys. map f (enumerate_from first ys)) (take_more xs k d lt) ∙ ap (map f) (enumerate_push first (take k xs) (get_or xs k d)) ∙ map-append f (enumerate_from first (take k xs)) ((first + length (take k xs), get_or xs k d) ∷ [])
    ∙ ap (λ (n : ℕ). map f (enumerate_from first (take k xs)) ++ f (n, get_or xs k d) ∷ []) place in
    subst (λ (ls : List (List ℕ)). AddsLines ls a c) (sym e) (both_added (map f (enumerate_from first (take k xs))) (f (first + k, get_or xs k d) ∷ []) a b c before then)

-- ---- a text behind another

ends_append : (a : ℕ) (ls ms : List (List ℕ)) → ends_from a (ls ++ ms) ≡ ends_from a ls ++ ends_from (a + length (concatenated ls)) ms
ends_append a [] ms = ap (λ (n : ℕ). ends_from n ms) (omega arith)
ends_append a (l ∷ ls) ms =
    ap (λ (ns : List ℕ). (a + length l) ∷ ns)
    (ends_append (a + length l) ls ms ∙ ap (λ (n : ℕ). ends_from (a + length l) ls ++ ends_from n ms) (omega (arith, length-append l (concatenated ls))))

ends_shifted : (s a : ℕ) (ls : List (List ℕ)) → map (λ (e : ℕ). s + e) (ends_from a ls) ≡ ends_from (s + a) ls
ends_shifted s a [] = refl
ends_shifted s a (l ∷ ls) =
    let e : s + (a + length l) ≡ s + a + length l = omega arith in
    ap (λ (ns : List ℕ). (s + (a + length l)) ∷ ns) (ends_shifted s (a + length l) ls) ∙ ap (λ (n : ℕ). n ∷ ends_from n ls) e

ends_inside : (a : ℕ) (ls : List (List ℕ)) (k d : ℕ) → k < length (ends_from a ls) → slice_index_or (ends_from a ls) k d ≤ a + length (concatenated ls)
ends_inside a [] k d lt = absurd (omega (arith, lt))
ends_inside a (l ∷ ls) zero d lt = omega (arith, length-append l (concatenated ls))
ends_inside a (l ∷ ls) (suc k) d lt = omega (arith, ends_inside (a + length l) ls k d (omega (arith, lt)), length-append l (concatenated ls))

-- the places of a text are inside it
pub cut_inside : (draft : Draft) → IsCut draft → All (λ (e : ℕ). e ≤ length draft.text) draft.ends
cut_inside draft (lines, has) = subst (All (λ (e : ℕ). e ≤ length draft.text)) (sym has.ends_are) (λ k d lt. omega (arith, ends_inside 0 lines k d lt, ap length has.text_is))

pub text_added : (old new piece : Draft) (s : ℕ) → s ≡ length old.text → new.text ≡ old.text ++ piece.text → new.ends ≡ old.ends ++ map (λ (e : ℕ). s + e) piece.ends → (lines : List (List ℕ)) → HasLines lines piece.text piece.ends → AddsLines lines old new
text_added old new piece s is text ends lines of_piece = record {
  added = λ before has.
      let start : s + 0 ≡ 0 + length (concatenated before) = omega (arith, is, ap length has.text_is) in
      record {
        text_is = text ∙ ap (λ (bs : List ℕ). bs ++ piece.text) has.text_is ∙ ap (λ (bs : List ℕ). concatenated before ++ bs) of_piece.text_is ∙ sym (flat_map-append (λ piece. piece) before lines);
        ends_are =
            ends ∙ ap (λ (ns : List ℕ). ns ++ map (λ (e : ℕ). s + e) piece.ends) has.ends_are
            ∙ ap (λ (ns : List ℕ). ends_from 0 before ++ ns) (ap (map (λ (e : ℕ). s + e)) of_piece.ends_are ∙ ends_shifted s 0 lines ∙ ap (λ (n : ℕ). ends_from n lines) start)
            ∙ sym (ends_append 0 before lines);
      };
}
