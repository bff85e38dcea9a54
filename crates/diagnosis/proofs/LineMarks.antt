-- A piece begins with `%` exactly if its line does.
use Rattle.std.proofs.Common.{◌≡◌, ℕ, suc, ◌-◌, ◌<◌, Bool, true, false, cond, List, [], ◌∷◌, ◌++◌, length, map, get_or, refl, sym, ap, ◌∙◌, arith}
use Rattle.std.specs.Prelude.{All, ◌==◌, slice_index}
use Rattle.std.specs.List.{slice_split}
use Rattle.std.specs.Str.Lines.{lines_of_parts, strip_carriage_return}
use Rattle.std.proofs.lemmas.Bool.{eqb-true, ne_eqb, cond_both, or_parts}
use Rattle.std.proofs.lemmas.List.{length-map, get_or-map}
use Rattle.std.proofs.lemmas.List.Elements.{All-nil, All-cons, All-tail}
use Rattle.std.proofs.lemmas.List.Splits.{length-slice_split}
use Rattle.scan_model.specs.Lines.{text_lines, pieces}
use Rattle.text_parts.specs.TextEnd.{is_ended, ended}
use Rattle.design_bundle.specs.Bundle.{is_mark}
use Rattle.diagnosis.proofs.Percents.{has_percent}

abbrev later : List Bool → List Bool
later [] = []
later (m ∷ ms) = ms

-- which lines begin with `%`
abbrev marks : List ℕ → List Bool
marks [] = []
marks (b ∷ bs) = cond (b == 10) (false ∷ marks bs) ((b == 37) ∷ later (marks bs))

pieces_marks : (bytes : List ℕ) → map is_mark (pieces bytes) ≡ marks bytes
pieces_marks [] = refl
pieces_marks (b ∷ bs) = go (b == 10) refl (pieces bs) refl (pieces_marks bs)
  where
    go : (end : Bool) → (b == 10) ≡ end → (ps : List (List ℕ)) → pieces bs ≡ ps → map is_mark (pieces bs) ≡ marks bs → map is_mark (pieces (b ∷ bs)) ≡ marks (b ∷ bs)
    go true e ps h more = rw (eqb-true b 10 e) (ap (λ ms. false ∷ ms) more)
    go false e [] h more = rw (← more, e, h) refl
    go false e (p ∷ ps) h more = rw (← more, e, h) refl

-- a line without its end begins with the same byte
stripped_mark : (b : ℕ) (bs : List ℕ) → is_mark (strip_carriage_return (b ∷ bs)) ≡ (b == 37)
stripped_mark b [] = go (b == 13) refl
  where
    go : (end : Bool) → (b == 13) ≡ end → is_mark (strip_carriage_return (b ∷ [])) ≡ (b == 37)
    go true e = rw (eqb-true b 13 e) refl
    go false e = rw e refl
stripped_mark b (c ∷ cs) = go (slice_index (b ∷ c ∷ cs) (length (b ∷ c ∷ cs) - 1) == 13) refl
  where
    go : (end : Bool) → (slice_index (b ∷ c ∷ cs) (length (b ∷ c ∷ cs) - 1) == 13) ≡ end → is_mark (strip_carriage_return (b ∷ c ∷ cs)) ≡ (b == 37)
    go true e =
        let size : length (b ∷ c ∷ cs) - 1 ≡ suc (length cs) = omega arith in
        rw (e, size) refl
    go false e = rw e refl

lines_marks : (bytes : List ℕ) → map is_mark (text_lines bytes) ≡ marks bytes
lines_marks [] = refl
lines_marks (b ∷ bs) = go (b == 10) refl (slice_split (λ x. x == 10) bs) refl (lines_marks bs)
  where
    go : (end : Bool) → (b == 10) ≡ end → (parts : List (List ℕ)) → slice_split (λ x. x == 10) bs ≡ parts → map is_mark (text_lines bs) ≡ marks bs
        → map is_mark (text_lines (b ∷ bs)) ≡ marks (b ∷ bs)
    go end e [] h more = absurd (omega (arith, length-slice_split (λ x. x == 10) bs, ap length h))
    go true e (part ∷ parts) h more = rw (← more, e, h) refl
    go false e ([] ∷ []) h more = rw (← more, e, h) refl
    go false e ((c ∷ cs) ∷ []) h more =
        let filled : (length (c ∷ cs) == 0) ≡ false = ne_eqb (length (c ∷ cs)) 0 (λ none. omega arith) in
        let longer : (length (b ∷ c ∷ cs) == 0) ≡ false = ne_eqb (length (b ∷ c ∷ cs)) 0 (λ none. omega arith) in
        rw (← more, e, h, filled, longer) refl
    go false e (part ∷ next ∷ parts) h more = rw (← more, e, h) (ap (λ m. m ∷ map is_mark (lines_of_parts (next ∷ parts))) (stripped_mark b part))

-- piece i begins with `%` exactly if line i does, and there are as many pieces as lines
pub same_marks : (bytes : List ℕ) → map is_mark (pieces bytes) ≡ map is_mark (text_lines bytes)
same_marks bytes = pieces_marks bytes ∙ sym (lines_marks bytes)

-- LF at the end of a text that doesn't end with it begins no piece
ended_marks : (bytes : List ℕ) → is_ended bytes ≡ false → marks (bytes ++ 10 ∷ []) ≡ marks bytes
ended_marks [] e = absurd cc
ended_marks (b ∷ []) e = rw e refl
ended_marks (b ∷ c ∷ cs) e =
    let last : length (c ∷ cs) - 1 ≡ length cs = omega arith in
    let further : length (b ∷ c ∷ cs) - 1 ≡ suc (length cs) = omega arith in
    let same : is_ended (c ∷ cs) ≡ is_ended (b ∷ c ∷ cs) = rw (last, further) refl in
    rw (ended_marks (c ∷ cs) (same ∙ e)) refl

marks_of_ended : (bytes : List ℕ) → marks (ended bytes) ≡ marks bytes
marks_of_ended bytes = cond_both (is_ended bytes) bytes (bytes ++ 10 ∷ []) (λ xs. marks xs ≡ marks bytes) (λ e. refl) (ended_marks bytes)

-- if no line of a text begins with `%`, no piece does
pub unmarked_pieces : (bytes : List ℕ) → All (λ line. is_mark line ≡ false) (text_lines bytes) → All (λ piece. is_mark piece ≡ false) (pieces (ended bytes))
unmarked_pieces bytes unmarked k d lt =
    let ps = pieces (ended bytes) in
    let ls = text_lines bytes in
    let same : map is_mark ps ≡ map is_mark ls = pieces_marks (ended bytes) ∙ marks_of_ended bytes ∙ sym (lines_marks bytes) in
    let low : k < length ls = omega (arith, ap length same, length-map ps is_mark, length-map ls is_mark) in
    sym (get_or-map is_mark ps k d false lt) ∙ ap (λ ms. get_or ms k false) same ∙ get_or-map is_mark ls k [] false low ∙ unmarked k [] low

-- ---- a text without `%`

none_later : (ms : List Bool) → All (λ m. m ≡ false) ms → All (λ m. m ≡ false) (later ms)
none_later [] none = none
none_later (m ∷ ms) none = All-tail (λ x. x ≡ false) m ms none

no_marks : (bytes : List ℕ) → has_percent bytes ≡ false → All (λ m. m ≡ false) (marks bytes)
no_marks [] plain = All-nil (λ m. m ≡ false)
no_marks (b ∷ bs) plain =
    let both = or_parts (b == 37) (has_percent bs) plain in
    let none = no_marks bs both.1 in
    cond_both (b == 10) (false ∷ marks bs) ((b == 37) ∷ later (marks bs)) (λ ms. All (λ m. m ≡ false) ms)
    (λ e. All-cons (λ m. m ≡ false) false (marks bs) refl none)
    (λ e. All-cons (λ m. m ≡ false) (b == 37) (later (marks bs)) both.0 (none_later (marks bs) none))

-- no piece of such a text begins with `%`
pub plain_pieces : (bytes : List ℕ) → has_percent bytes ≡ false → All (λ piece. is_mark piece ≡ false) (pieces bytes)
plain_pieces bytes plain k d lt =
    let ps = pieces bytes in
    let same = pieces_marks bytes in
    let low : k < length (marks bytes) = omega (arith, ap length same, length-map ps is_mark) in
    sym (get_or-map is_mark ps k d false lt) ∙ ap (λ ms. get_or ms k false) same ∙ no_marks bytes plain k false low
