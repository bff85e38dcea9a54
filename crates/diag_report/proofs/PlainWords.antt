-- Words of name bytes, the lines that they make, and how these are read back.
use Rattle.std.proofs.Common.{◌≡◌, ℕ, ◌-◌, ◌<◌, Bool, true, false, not, ◌&&◌, ◌||◌, cond, eqb, leb, List, [], ◌∷◌, ◌++◌, length, map, take, Some, refl, ap, ◌∙◌, append_assoc, inl, inr, arith}
use Rattle.std.specs.Prelude.{All, filter}
use Rattle.std.specs.List.{list_all, slice_split, AllByRecursion, position_or_len}
use Rattle.std.specs.Str.Lines.{lines, lines_of_parts, strip_carriage_return}
use Rattle.std.proofs.lemmas.Bool.{cases_Bool, both_ways, eqb-true, ne_eqb}
use Rattle.std.proofs.lemmas.Bool.Decides.{nat_tests}
use Rattle.std.proofs.lemmas.List.{take_all}
use Rattle.std.proofs.lemmas.List.Elements.{All-from_recursion}
use Rattle.std.proofs.lemmas.List.Folds.{list_any_none}
use Rattle.std.proofs.lemmas.List.Splits.{slice_split_none, slice_split_at, length-slice_split}
use Rattle.std.proofs.lemmas.List.Sums.{position_or_len_is}
use Rattle.scan_model.specs.Lines.{text_lines, is_blank, is_accepted, has_refused_byte, without_comment}
use Rattle.scan_model.specs.Words.{words, word_lines, has_words, is_filled, is_name_byte, is_digit, is_letter, is_tag_byte, is_tag}
use Rattle.scan_model.specs.declared.logs.LogForm.{LogForm}
use Rattle.scan_model.specs.LogText.{later_lines, lines_after, filled_lines, first_version, title_of, version_of, log_line}
use Rattle.scan_model.specs.ReportText.{spaced, line, concatenated}
use Rattle.diag_report.specs.PredictedLog.{is_word_name}
use Rattle.diag_report.proofs.Bools.{left_true, right_true, both_true}

-- words that are names
abbrev pub AreNames : List (List ℕ) → Type 0
AreNames ws = AllByRecursion (λ w. is_word_name w ≡ true) ws

-- ---- bytes

-- a byte that no name has is not this one
pub not_byte : (c : ℕ) → is_name_byte c ≡ false → (b : ℕ) → is_name_byte b ≡ true → eqb b c ≡ false
not_byte c none b some = elim (cases_Bool (eqb b c)) [
  | inl same ↦ absurd (both_ways (is_name_byte b) (ap is_name_byte (eqb-true b c same) ∙ none) some)
  | inr other ↦ other
]

not_blank : (b : ℕ) → is_name_byte b ≡ true → is_blank b ≡ false
not_blank b e = rw (not_byte 32 refl b e, not_byte 9 refl b e) refl

not_refused : (b : ℕ) → is_name_byte b ≡ true → not (is_accepted b) ≡ false
not_refused b e =
    let range : (leb 33 b && leb b 126) ≡ true = left_true (leb 33 b && leb b 126) _ e in
    let low : leb 32 b ≡ true = grind (arith, nat_tests, left_true (leb 33 b) (leb b 126) range) in
    rw (low, right_true (leb 33 b) (leb b 126) range) refl

-- a test that no name byte passes finds none in a name
pub none_in_name : (p : ℕ → Bool) → ((b : ℕ) → is_name_byte b ≡ true → p b ≡ false) → (w : List ℕ) → list_all is_name_byte w ≡ true → AllByRecursion (λ b. p b ≡ false) w
none_in_name p each [] e = tt
none_in_name p each (b ∷ bs) e = (each b (left_true (is_name_byte b) _ e), none_in_name p each bs (right_true (is_name_byte b) _ e))

pub append_all : (P : ℕ → Type 0) (xs ys : List ℕ) → AllByRecursion P xs → AllByRecursion P ys → AllByRecursion P (xs ++ ys)
append_all P [] ys a b = b
append_all P (x ∷ xs) ys a b = (a.0, append_all P xs ys a.1 b)

-- nor in names with spaces between, where a space doesn't pass
none_in_line : (p : ℕ → Bool) → p 32 ≡ false → ((b : ℕ) → is_name_byte b ≡ true → p b ≡ false) → (ws : List (List ℕ)) → AreNames ws → AllByRecursion (λ b. p b ≡ false) (spaced ws)
none_in_line p space each [] names = tt
none_in_line p space each (w ∷ []) names = none_in_name p each w (right_true (is_filled w) _ names.0)
none_in_line p space each (w ∷ v ∷ ws) names =
    append_all (λ b. p b ≡ false) w (32 ∷ spaced (v ∷ ws)) (none_in_name p each w (right_true (is_filled w) _ names.0)) (space, none_in_line p space each (v ∷ ws) names.1)

abbrev Lacks : (ℕ → Bool) → List ℕ → Type 0
Lacks p bs = All (λ b. p b ≡ false) bs

line_lacks : (p : ℕ → Bool) → p 32 ≡ false → ((b : ℕ) → is_name_byte b ≡ true → p b ≡ false) → (ws : List (List ℕ)) → AreNames ws → Lacks p (spaced ws)
line_lacks p space each ws names = All-from_recursion (λ b. p b ≡ false) (spaced ws) (none_in_line p space each ws names)

-- ---- the words of a line

without_none : (bs : List ℕ) → Lacks (λ b. eqb b 35) bs → without_comment bs ≡ bs
without_none bs lacks =
    let end : position_or_len (λ b. eqb b 35) bs ≡ length bs = position_or_len_is (λ b. eqb b 35) bs (length bs) 0 (omega arith) (λ k lt. lacks k 0 lt) (λ lt. absurd (omega arith)) in
    ap (λ (n : ℕ). take n bs) end ∙ take_all (length bs) bs (omega arith)

split_words : (w : List ℕ) (ws : List (List ℕ)) → AreNames (w ∷ ws) → slice_split is_blank (spaced (w ∷ ws)) ≡ w ∷ ws
split_words w [] names = slice_split_none is_blank w (All-from_recursion _ w (none_in_name is_blank not_blank w (right_true (is_filled w) _ names.0)))
split_words w (v ∷ ws) names =
    slice_split_at is_blank w 32 (spaced (v ∷ ws)) (All-from_recursion _ w (none_in_name is_blank not_blank w (right_true (is_filled w) _ names.0))) refl
    ∙ ap (λ (ps : List (List ℕ)). w ∷ ps) (split_words v ws names.1)

all_filled : (ws : List (List ℕ)) → AreNames ws → filter is_filled ws ≡ ws
all_filled [] names = refl
all_filled (w ∷ ws) names = rw (left_true (is_filled w) (list_all is_name_byte w) names.0) (ap (λ (vs : List (List ℕ)). w ∷ vs) (all_filled ws names.1))

pub words_back : (w : List ℕ) (ws : List (List ℕ)) → AreNames (w ∷ ws) → words (spaced (w ∷ ws)) ≡ w ∷ ws
words_back w ws names =
    let same : without_comment (spaced (w ∷ ws)) ≡ spaced (w ∷ ws) = without_none (spaced (w ∷ ws)) (line_lacks (λ b. eqb b 35) refl (not_byte 35 refl) (w ∷ ws) names) in
    ap (λ (bs : List ℕ). filter is_filled (slice_split is_blank bs)) same ∙ ap (filter is_filled) (split_words w ws names) ∙ all_filled (w ∷ ws) names

pub none_refused : (ws : List (List ℕ)) → AreNames ws → has_refused_byte (spaced ws) ≡ false
none_refused ws names = list_any_none (λ b. not (is_accepted b)) (spaced ws) (line_lacks (λ b. not (is_accepted b)) refl not_refused ws names)

-- ---- the lines of a text

not_stripped : (bs : List ℕ) → Lacks (λ b. eqb b 13) bs → strip_carriage_return bs ≡ bs
not_stripped [] lacks = refl
not_stripped (b ∷ bs) lacks = ap (λ (c : Bool). cond c (take (length (b ∷ bs) - 1) (b ∷ bs)) (b ∷ bs)) (lacks (length (b ∷ bs) - 1) 0 (omega arith))

parts_cons : (x : List ℕ) (parts : List (List ℕ)) → 0 < length parts → lines_of_parts (x ∷ parts) ≡ strip_carriage_return x ∷ lines_of_parts parts
parts_cons x [] l = absurd (omega arith)
parts_cons x (y ∷ more) l = refl

pub first_line : (bs rest : List ℕ) → Lacks (λ b. eqb b 10) bs → Lacks (λ b. eqb b 13) bs → lines (bs ++ 10 ∷ rest) ≡ bs ∷ lines rest
first_line bs rest no_feed no_return =
    ap lines_of_parts (slice_split_at (λ b. eqb b 10) bs 10 rest no_feed refl) ∙ parts_cons bs (slice_split (λ b. eqb b 10) rest) (omega (arith, length-slice_split (λ b. eqb b 10) rest))
    ∙ ap (λ (l : List ℕ). l ∷ lines rest) (not_stripped bs no_return)

-- a line of one name or more
abbrev pub IsLine : List (List ℕ) → Type 0
IsLine ws = (has_words ws ≡ true) × AreNames ws

abbrev pub AreLines : List (List (List ℕ)) → Type 0
AreLines wss = AllByRecursion IsLine wss

pub lines_back : (wss : List (List (List ℕ))) → AreLines wss → text_lines (concatenated (map line wss)) ≡ map spaced wss
lines_back [] names = refl
lines_back (ws ∷ wss) names =
    let rest : List ℕ = concatenated (map line wss) in
    ap lines (append_assoc (spaced ws) (10 ∷ []) rest)
    ∙ first_line (spaced ws) rest (line_lacks (λ b. eqb b 10) refl (not_byte 10 refl) ws names.0.1) (line_lacks (λ b. eqb b 13) refl (not_byte 13 refl) ws names.0.1)
    ∙ ap (λ (ls : List (List ℕ)). spaced ws ∷ ls) (lines_back wss names.1)

pub words_of_line : (ws : List (List ℕ)) → IsLine ws → words (spaced ws) ≡ ws
words_of_line [] names = absurd (let e : false ≡ true = names.0 in cc)
words_of_line (w ∷ ws) names = words_back w ws names.1

pub word_lines_back : (wss : List (List (List ℕ))) → AreLines wss → word_lines (map spaced wss) ≡ wss
word_lines_back [] names = refl
word_lines_back (ws ∷ wss) names = ap (λ (vs : List (List ℕ)). vs ∷ word_lines (map spaced wss)) (words_of_line ws names.0) ∙ ap (λ (vss : List (List (List ℕ))). ws ∷ vss) (word_lines_back wss names.1)

all_have_words : (wss : List (List (List ℕ))) → AreLines wss → filter has_words wss ≡ wss
all_have_words [] names = refl
all_have_words (ws ∷ wss) names = ap (λ (b : Bool). cond b (ws ∷ filter has_words wss) (filter has_words wss)) names.0.0 ∙ ap (λ (vss : List (List (List ℕ))). ws ∷ vss) (all_have_words wss names.1)

-- the lines with words, by their words
pub filled_back : (wss : List (List (List ℕ))) → AreLines wss → filled_lines (map spaced wss) ≡ wss
filled_back wss names = ap (filter has_words) (word_lines_back wss names) ∙ all_have_words wss names

-- the lines after the first, by their forms
pub later_back : (form : LogForm) (ws : List (List ℕ)) (wss : List (List (List ℕ))) → AreLines (ws ∷ wss) → later_lines form (map spaced (ws ∷ wss)) ≡ map (log_line form (version_of form ws)) wss
later_back form ws wss names = ap (lines_after form) (filled_back (ws ∷ wss) names)

-- the version of the first
pub title_back : (form : LogForm) (ws : List (List ℕ)) (wss : List (List (List ℕ))) → AreLines (ws ∷ wss) → title_of form (map spaced (ws ∷ wss)) ≡ Some (version_of form ws)
title_back form ws wss names = ap (first_version form) (filled_back (ws ∷ wss) names)

-- ---- tags

tag_byte : (b : ℕ) → is_tag_byte b ≡ true → is_name_byte b ≡ true
tag_byte b e = grind (arith, nat_tests, e)

tag_bytes : (bs : List ℕ) → list_all is_tag_byte bs ≡ true → list_all is_name_byte bs ≡ true
tag_bytes [] e = refl
tag_bytes (b ∷ bs) e = both_true (is_name_byte b) _ (tag_byte b (left_true (is_tag_byte b) _ e)) (tag_bytes bs (right_true (is_tag_byte b) _ e))

first_byte : (b : ℕ) → (is_letter b || is_digit b) ≡ true → is_tag_byte b ≡ true
first_byte b e = by (is_letter b) (is_digit b) e
  where
    by : (x y : Bool) → (x || y) ≡ true → (x || (y || ((eqb b 95) || ((eqb b 45) || (eqb b 46))))) ≡ true
    by true y e = refl
    by false true e = refl
    by false false e = absurd cc

pub tag_is_name : (w : List ℕ) → is_tag w ≡ true → is_word_name w ≡ true
tag_is_name [] e = absurd cc
tag_is_name (b ∷ bs) e =
    let first = tag_byte b (first_byte b (left_true (is_letter b || is_digit b) _ e)) in
    let more = tag_bytes bs (left_true (list_all is_tag_byte bs) _ (right_true (is_letter b || is_digit b) _ e)) in
    both_true (is_filled (b ∷ bs)) (list_all is_name_byte (b ∷ bs)) (ap not (ne_eqb (length (b ∷ bs)) 0 (λ z. absurd (omega arith)))) (both_true (is_name_byte b) (list_all is_name_byte bs) first more)
