-- The words of a line, taken from its front.
use Rattle.std.proofs.Common.{◌≡◌, ℕ, ◌+◌, ◌<◌, ◌≤◌, ◌==◌, ◌||◌, suc, Bool, true, false, cond, not, List, [], ◌∷◌, length, take, drop, refl, sym, ap, ◌∙◌, arith, length-drop, length-take}
use Rattle.std.specs.List.{position_or_len, before_first, slice_split, onto_first, filter}
use Rattle.std.proofs.lemmas.Bool.{ne_eqb}
use Rattle.std.proofs.lemmas.Bool.Decides.{nat_tests}
use Rattle.std.proofs.lemmas.List.Sums.{prefix_len-le-length}
use Rattle.std.proofs.lemmas.List.Splits.{slice_split-cons_yes, slice_split-cons_no}
use Rattle.scan_model.specs.Lines.{is_blank, without_comment}
use Rattle.scan_model.specs.Words.{words, is_filled}
use Rattle.text_parts.specs.FirstWord.{is_word_end, begins_blank, IsFirstWord}

abbrev is_comment : ℕ → Bool
is_comment b = b == 35

abbrev pub word_len : List ℕ → ℕ
word_len bs = position_or_len is_word_end bs

-- what stands between blanks
abbrev parts : List ℕ → List (List ℕ)
parts bs = slice_split is_blank (without_comment bs)

-- what stands between blanks, behind a first part
abbrev parts_after : List ℕ → List (List ℕ)
parts_after [] = []
parts_after (b ∷ bs) = cond (is_comment b) [] (parts bs)

-- ---- one more byte at the front

len-cons : (p : ℕ → Bool) (b : ℕ) (bs : List ℕ) (c : Bool) → p b ≡ c → position_or_len p (b ∷ bs) ≡ cond c 0 (suc (position_or_len p bs))
len-cons p b bs true e = rw e refl
len-cons p b bs false e = let next : 1 + position_or_len p bs ≡ suc (position_or_len p bs) = omega arith in rw e next

before_first-cons : (p : ℕ → Bool) (b : ℕ) (bs : List ℕ) (c : Bool) → p b ≡ c → before_first p (b ∷ bs) ≡ cond c [] (b ∷ before_first p bs)
before_first-cons p b bs true e = ap (λ n. take n (b ∷ bs)) (len-cons p b bs true e)
before_first-cons p b bs false e = ap (λ n. take n (b ∷ bs)) (len-cons p b bs false e)

parts-comment : (b : ℕ) (bs : List ℕ) → is_comment b ≡ true → parts (b ∷ bs) ≡ [] ∷ []
parts-comment b bs e = ap (slice_split is_blank) (before_first-cons is_comment b bs true e)

parts-blank : (b : ℕ) (bs : List ℕ) → is_comment b ≡ false → is_blank b ≡ true → parts (b ∷ bs) ≡ [] ∷ parts bs
parts-blank b bs e f = ap (slice_split is_blank) (before_first-cons is_comment b bs false e) ∙ slice_split-cons_yes is_blank b (without_comment bs) f

parts-letter : (b : ℕ) (bs : List ℕ) → is_comment b ≡ false → is_blank b ≡ false → parts (b ∷ bs) ≡ onto_first b (parts bs)
parts-letter b bs e f = ap (slice_split is_blank) (before_first-cons is_comment b bs false e) ∙ slice_split-cons_no is_blank b (without_comment bs) f

end_is : (b : ℕ) (c k : Bool) → is_comment b ≡ c → is_blank b ≡ k → is_word_end b ≡ (k || c)
end_is b c k e f = ap (λ x. x || (b == 35)) f ∙ ap (λ x. k || x) e

-- ---- the parts of a line, the first by itself

abbrev cut_at : List ℕ → ℕ → List (List ℕ)
cut_at bs n = take n bs ∷ parts_after (drop n bs)

first_part : (bs : List ℕ) → parts bs ≡ take (word_len bs) bs ∷ parts_after (drop (word_len bs) bs)
first_part [] = refl
first_part (b ∷ bs) = go (is_comment b) (is_blank b) refl refl (first_part bs)
  where
    go : (c k : Bool) → is_comment b ≡ c → is_blank b ≡ k → parts bs ≡ take (word_len bs) bs ∷ parts_after (drop (word_len bs) bs) → parts (b ∷ bs) ≡ cut_at (b ∷ bs) (word_len (b ∷ bs))
    go true true e f h = parts-comment b bs e ∙ sym (ap (cut_at (b ∷ bs)) (len-cons is_word_end b bs true (end_is b true true e f)) ∙ ap (λ c. [] ∷ cond c [] (parts bs)) e)
    go true false e f h = parts-comment b bs e ∙ sym (ap (cut_at (b ∷ bs)) (len-cons is_word_end b bs true (end_is b true false e f)) ∙ ap (λ c. [] ∷ cond c [] (parts bs)) e)
    go false true e f h = parts-blank b bs e f ∙ sym (ap (cut_at (b ∷ bs)) (len-cons is_word_end b bs true (end_is b false true e f)) ∙ ap (λ c. [] ∷ cond c [] (parts bs)) e)
    go false false e f h = parts-letter b bs e f ∙ ap (onto_first b) h ∙ sym (ap (cut_at (b ∷ bs)) (len-cons is_word_end b bs false (end_is b false false e f)))

abbrev SameAt : List ℕ → ℕ → Type 0
SameAt bs n = filter is_filled (parts_after (drop n bs)) ≡ words (drop n bs)

words_after : (bs : List ℕ) → filter is_filled (parts_after (drop (word_len bs) bs)) ≡ words (drop (word_len bs) bs)
words_after [] = refl
words_after (b ∷ bs) = go (is_comment b) (is_blank b) refl refl (words_after bs)
  where
    at_end : is_word_end b ≡ true → SameAt (b ∷ bs) 0 → SameAt (b ∷ bs) (word_len (b ∷ bs))
    at_end e same = rw (len-cons is_word_end b bs true e) same

    go : (c k : Bool) → is_comment b ≡ c → is_blank b ≡ k → filter is_filled (parts_after (drop (word_len bs) bs)) ≡ words (drop (word_len bs) bs) → SameAt (b ∷ bs) (word_len (b ∷ bs))
    go true true e f h = at_end (end_is b true true e f) (ap (λ c. filter is_filled (cond c [] (parts bs))) e ∙ sym (ap (filter is_filled) (parts-comment b bs e)))
    go true false e f h = at_end (end_is b true false e f) (ap (λ c. filter is_filled (cond c [] (parts bs))) e ∙ sym (ap (filter is_filled) (parts-comment b bs e)))
    go false true e f h = at_end (end_is b false true e f) (ap (λ c. filter is_filled (cond c [] (parts bs))) e ∙ sym (ap (filter is_filled) (parts-blank b bs e f)))
    go false false e f h =
        let n = len-cons is_word_end b bs false (end_is b false false e f) in
        ap (λ n. filter is_filled (parts_after (drop n (b ∷ bs)))) n ∙ h ∙ sym (ap (λ n. words (drop n (b ∷ bs))) n)

-- ---- words

filled_is : (w : List ℕ) (ws : List (List ℕ)) → 0 < length w → filter is_filled (w ∷ ws) ≡ w ∷ filter is_filled ws
filled_is w ws some =
    let e : (length w == 0) ≡ false = ne_eqb (length w) 0 (λ z. omega (arith, z, some)) in
    ap (λ c. cond (not c) (w ∷ filter is_filled ws) (filter is_filled ws)) e

pub first_word_is : (bs : List ℕ) → 0 < word_len bs → IsFirstWord bs (take (word_len bs) bs) (drop (word_len bs) bs)
first_word_is bs some =
    let within : word_len bs ≤ length bs = prefix_len-le-length (λ b. not (is_word_end b)) bs in
    let filled : 0 < length (take (word_len bs) bs) = omega (arith, some, within, length-take (word_len bs) bs) in
    record {
      words = ap (filter is_filled) (first_part bs) ∙ filled_is (take (word_len bs) bs) (parts_after (drop (word_len bs) bs)) filled ∙ ap (λ ws. take (word_len bs) bs ∷ ws) (words_after bs);
      shorter = omega (arith, some, within, length-drop (word_len bs) bs);
    }

pub no_word : (bs : List ℕ) → begins_blank bs ≡ false → word_len bs ≡ 0 → words bs ≡ []
no_word [] f none = refl
no_word (b ∷ bs) f none = go (is_comment b) refl
  where
    go : (c : Bool) → is_comment b ≡ c → words (b ∷ bs) ≡ []
    go true e = ap (filter is_filled) (parts-comment b bs e)
    go false e = absurd (omega (arith, none, len-cons is_word_end b bs false (end_is b false false e f)))

no_comment : (b : ℕ) → is_blank b ≡ true → is_comment b ≡ false
no_comment b f = grind (arith, nat_tests, f)

-- a blank at the front changes no word
pub words-blank : (b : ℕ) (bs : List ℕ) → is_blank b ≡ true → words (b ∷ bs) ≡ words bs
words-blank b bs f = ap (filter is_filled) (parts-blank b bs (no_comment b f) f)

-- the same line without blanks before its first word
pub moved : (bs rest word after : List ℕ) → words rest ≡ words bs → length rest ≤ length bs → IsFirstWord rest word after → IsFirstWord bs word after
moved bs rest word after same within first = record { words = sym same ∙ first.words; shorter = omega (arith, within, first.shorter) }
