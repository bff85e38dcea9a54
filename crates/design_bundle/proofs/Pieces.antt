-- The first line of a text, with its end and without.
use Rattle.std.proofs.Common.{◌≡◌, ℕ, ◌+◌, ◌-◌, ◌<◌, ◌≤◌, Bool, true, false, cond, ltb, List, [], ◌∷◌, ◌++◌, length, take, drop, get_or, Some, None, refl, sym, ap, subst, ◌∙◌, ◌==◌, arith, eqb-true, ne_eqb}
use Rattle.std.specs.List.{All, slice_split, position, position_or_len, before_first, after_first}
use Rattle.std.specs.Str.Lines.{lines_of_parts, strip_carriage_return}
use Rattle.std.proofs.lemmas.Bool.{ltb-true, ltb-false}
use Rattle.std.proofs.lemmas.Grind.{common_steps}
use Rattle.std.proofs.lemmas.List.{take_all, drop_all, take_more}
use Rattle.std.proofs.lemmas.List.Elements.{All-head, All-tail}
use Rattle.std.proofs.lemmas.List.Splits.{slice_split_at, slice_split_none, length-slice_split}
use Rattle.std.proofs.lemmas.List.Sums.{split_at_first, fails_before_first, passes_at_first}
use Rattle.scan_model.specs.Lines.{text_lines, pieces}
use Rattle.design_bundle.specs.BundleRest.{line_in}

abbrev is_end : ℕ → Bool
is_end b = b == 10

abbrev HasNoEnd : List ℕ → Type 0
HasNoEnd xs = All (λ b. is_end b ≡ false) xs

pieces_line : (xs ys : List ℕ) → HasNoEnd xs → pieces (xs ++ 10 ∷ ys) ≡ (xs ++ 10 ∷ []) ∷ pieces ys
pieces_line [] ys h = refl
pieces_line (x ∷ xs) ys h = rw (All-head (λ b. is_end b ≡ false) x xs h, pieces_line xs ys (All-tail (λ b. is_end b ≡ false) x xs h)) refl

pieces_last : (x : ℕ) (xs : List ℕ) → HasNoEnd (x ∷ xs) → pieces (x ∷ xs) ≡ (x ∷ xs) ∷ []
pieces_last x [] h = rw (All-head (λ b. is_end b ≡ false) x [] h) refl
pieces_last x (y ∷ xs) h = rw (All-head (λ b. is_end b ≡ false) x (y ∷ xs) h, pieces_last y xs (All-tail (λ b. is_end b ≡ false) x (y ∷ xs) h)) refl

lines_of_parts-cons : (x : List ℕ) (parts : List (List ℕ)) → 0 < length parts → lines_of_parts (x ∷ parts) ≡ strip_carriage_return x ∷ lines_of_parts parts
lines_of_parts-cons x [] l = absurd (omega arith)
lines_of_parts-cons x (y ∷ more) l = refl

lines_line : (xs ys : List ℕ) → HasNoEnd xs → text_lines (xs ++ 10 ∷ ys) ≡ strip_carriage_return xs ∷ text_lines ys
lines_line xs ys h =
    ap lines_of_parts (slice_split_at is_end xs 10 ys h refl)
    ∙ lines_of_parts-cons xs (slice_split is_end ys) (omega (arith, length-slice_split is_end ys))

lines_last : (x : ℕ) (xs : List ℕ) → HasNoEnd (x ∷ xs) → text_lines (x ∷ xs) ≡ (x ∷ xs) ∷ []
lines_last x xs h = ap lines_of_parts (slice_split_none is_end (x ∷ xs) h) ∙ ap (λ b. cond b [] ((x ∷ xs) ∷ [])) (ne_eqb (length (x ∷ xs)) 0 (λ z. omega arith))

line_in_line : (xs : List ℕ) → line_in (xs ++ 10 ∷ []) ≡ strip_carriage_return xs
line_in_line xs =
    let last : get_or (xs ++ 10 ∷ []) (length (xs ++ 10 ∷ []) - 1) 0 ≡ 10 = grind (arith, common_steps) in
    let front : take (length (xs ++ 10 ∷ []) - 1) (xs ++ 10 ∷ []) ≡ xs = grind (arith, common_steps) in
    rw (last, front) refl

line_in_last : (x : ℕ) (xs : List ℕ) → HasNoEnd (x ∷ xs) → line_in (x ∷ xs) ≡ x ∷ xs
line_in_last x xs h = ap (λ b. cond b (strip_carriage_return (take (length (x ∷ xs) - 1) (x ∷ xs))) (x ∷ xs)) (h (length (x ∷ xs) - 1) 0 (omega arith))

-- what a text is cut into at the first LF
pub record IsCut (text piece rest : List ℕ) : Type 0 where
  pub pieces : pieces text ≡ piece ∷ pieces rest
  pub lines : text_lines text ≡ line_in piece ∷ text_lines rest

cut_line : (xs ys : List ℕ) → HasNoEnd xs → IsCut (xs ++ 10 ∷ ys) (xs ++ 10 ∷ []) ys
cut_line xs ys h = record { pieces = pieces_line xs ys h; lines = rw (line_in_line xs) (lines_line xs ys h) }

cut_last : (xs : List ℕ) → 0 < length xs → HasNoEnd xs → IsCut xs xs []
cut_last [] some h = absurd (omega arith)
cut_last (x ∷ xs) some h = record { pieces = pieces_last x xs h; lines = rw (line_in_last x xs h) (lines_last x xs h) }

before_end : (text : List ℕ) → HasNoEnd (before_first is_end text)
before_end text = λ k e m. let k' = fails_before_first is_end text k e (grind (arith, common_steps)) in grind (arith, common_steps)

cut_found : (text : List ℕ) → position_or_len is_end text < length text → IsCut text (take (position_or_len is_end text + 1) text) (drop (position_or_len is_end text + 1) text)
cut_found text found =
    let before : List ℕ = before_first is_end text in
    let after : List ℕ = after_first is_end text in
    let end : get_or text (position_or_len is_end text) 0 ≡ 10 = eqb-true _ 10 (passes_at_first is_end text 0 found) in
    let whole : text ≡ before ++ 10 ∷ after = split_at_first is_end text 0 found ∙ ap (λ b. before ++ b ∷ after) end in
    let front : take (position_or_len is_end text + 1) text ≡ before ++ 10 ∷ [] = take_more text (position_or_len is_end text) 0 found ∙ ap (λ b. before ++ b ∷ []) end in
    subst (λ (t : List ℕ). IsCut t (take (position_or_len is_end text + 1) text) after) (sym whole)
    (subst (λ (t : List ℕ). IsCut (before ++ 10 ∷ after) t after) (sym front) (cut_line before after (before_end text)))

cut_absent : (text : List ℕ) → 0 < length text → length text ≤ position_or_len is_end text → IsCut text (take (length text) text) (drop (length text) text)
cut_absent text some absent =
    let front : take (length text) text ≡ text = take_all (length text) text (omega arith) in
    let back : drop (length text) text ≡ [] = drop_all (length text) text (omega arith) in
    rw (front, back) (cut_last text some (λ k e m. fails_before_first is_end text k e (omega arith)))

found_in : (b : Bool) (i j : ℕ) → Some i ≡ cond b (Some j) None → (i ≡ j) × (b ≡ true)
found_in true i j e = (cc, refl)
found_in false i j e = absurd cc

absent_in : (b : Bool) (j : ℕ) → None ≡ cond b (Some j) None → b ≡ false
absent_in true j e = absurd cc
absent_in false j e = refl

-- cut behind the place of the first LF, or at the end where there is none
pub cut_at : (text : List ℕ) (i : ℕ) → Some i ≡ position is_end text → IsCut text (take (i + 1) text) (drop (i + 1) text)
cut_at text i e =
    let found = found_in (ltb (position_or_len is_end text) (length text)) i (position_or_len is_end text) e in
    subst (λ (j : ℕ). IsCut text (take (j + 1) text) (drop (j + 1) text)) (sym found.0) (cut_found text (ltb-true _ _ found.1))

pub cut_at_end : (text : List ℕ) → 0 < length text → None ≡ position is_end text → IsCut text (take (length text) text) (drop (length text) text)
cut_at_end text some e = cut_absent text some (ltb-false _ _ (absent_in (ltb (position_or_len is_end text) (length text)) (position_or_len is_end text) e))

-- what comes after it

pub behind_at : (text : List ℕ) (i : ℕ) → Some i ≡ position is_end text → drop (i + 1) text ≡ after_first is_end text
behind_at text i e = ap (λ (j : ℕ). drop (j + 1) text) (found_in (ltb (position_or_len is_end text) (length text)) i (position_or_len is_end text) e).0

pub behind_end : (text : List ℕ) → None ≡ position is_end text → drop (length text) text ≡ after_first is_end text
behind_end text e =
    let absent : length text ≤ position_or_len is_end text = ltb-false _ _ (absent_in (ltb (position_or_len is_end text) (length text)) (position_or_len is_end text) e) in
    drop_all (length text) text (omega arith) ∙ sym (drop_all (position_or_len is_end text + 1) text (omega (arith, absent)))
