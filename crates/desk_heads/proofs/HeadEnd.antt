-- The end of a head, byte by byte.
use Rattle.std.proofs.Common.{◌≡◌, ℕ, ◌+◌, ◌-◌, zero, suc, ◌<◌, ◌≤◌, Bool, true, false, ◌==◌, if◌then◌else◌, List, [], ◌∷◌, length, take, drop, get_or, Option, Some, None, refl, sym, ap, subst, ◌∙◌, arith}
use Rattle.std.specs.Option.{option_map}
use Rattle.std.proofs.lemmas.Bool.{ne_eqb}
use Rattle.std.proofs.lemmas.List.{at_drop_more, take_rest}
use Rattle.std.proofs.Math.ListN.{drop_of_length-le}
use Rattle.desk_heads.specs.Heads.{blank_length, or_else, head_length, HasNoEndWithin}

-- an LF with an empty line behind it
pub ends_at_lf : (byte blank : ℕ) (bytes : List ℕ) → byte ≡ 10 → blank_length bytes ≡ Some blank → head_length (byte ∷ bytes) ≡ Some (suc blank)
unfolding head_length
ends_at_lf byte blank bytes lf found = rw (lf, found) refl

-- another byte
pub goes_on : (byte : ℕ) (bytes : List ℕ) → (byte == 10) ≡ false → head_length (byte ∷ bytes) ≡ option_map suc (head_length bytes)
unfolding head_length
goes_on byte bytes other = rw other refl

-- a byte with no empty line behind it
pub goes_on_at_lf : (byte : ℕ) (bytes : List ℕ) → blank_length bytes ≡ None → head_length (byte ∷ bytes) ≡ option_map suc (head_length bytes)
unfolding head_length
goes_on_at_lf byte bytes none = rw none (by (byte == 10))
  where
    by : (lf : Bool) → option_map suc (or_else (if lf then None else None) (head_length bytes)) ≡ option_map suc (head_length bytes)
    by true = refl
    by false = refl

-- the place of what is found behind i bytes
abbrev pub behind : ℕ → Option ℕ → Option ℕ
behind i found = option_map (λ n. i + n) found

behind-suc : (i : ℕ) (found : Option ℕ) → behind i (option_map suc found) ≡ behind (i + 1) found
behind-suc i None = refl
behind-suc i (Some n) = ap Some (omega arith)

-- the bytes behind the one at a place
abbrev pub after : List ℕ → ℕ → List ℕ
after bytes i = take (length bytes - (i + 1)) (drop (i + 1) bytes)

module _ (bytes : List ℕ) (i : ℕ) (within : i < length bytes) where
  pub found_at : (blank : ℕ) → get_or bytes i 0 ≡ 10 → Some blank ≡ blank_length (after bytes i) → Some (i + 1 + blank) ≡ behind i (head_length (drop i bytes))
  found_at blank lf found =
      let found_there : blank_length (drop (i + 1) bytes) ≡ Some blank = ap blank_length (sym (take_rest bytes (i + 1))) ∙ sym found in
      let place : i + 1 + blank ≡ i + suc blank = omega arith in
      let there = ap (behind i) (ends_at_lf (get_or bytes i 0) blank _ lf found_there) in
      sym (at_drop_more (λ bs. behind i (head_length bs)) bytes i 0 within ∙ there ∙ ap Some (sym place))

  pub steps_over : (get_or bytes i 0 ≡ 10 → ⊥) → behind (i + 1) (head_length (drop (i + 1) bytes)) ≡ behind i (head_length (drop i bytes))
  steps_over other =
      sym (at_drop_more (λ bs. behind i (head_length bs)) bytes i 0 within ∙ ap (behind i) (goes_on (get_or bytes i 0) _ (ne_eqb _ _ other)) ∙ behind-suc i _)

  pub steps_over_lf : None ≡ blank_length (after bytes i) → behind (i + 1) (head_length (drop (i + 1) bytes)) ≡ behind i (head_length (drop i bytes))
  steps_over_lf none =
      let none_there : blank_length (drop (i + 1) bytes) ≡ None = ap blank_length (sym (take_rest bytes (i + 1))) ∙ sym none in
      sym (at_drop_more (λ bs. behind i (head_length bs)) bytes i 0 within ∙ ap (behind i) (goes_on_at_lf (get_or bytes i 0) _ none_there) ∙ behind-suc i _)

pub none_at_end : (bytes : List ℕ) (i : ℕ) → length bytes ≤ i → None ≡ behind i (head_length (drop i bytes))
unfolding head_length
none_at_end bytes i past = sym (ap (λ bs. behind i (head_length bs)) (drop_of_length-le bytes past))

-- ---- behind bytes in which it was sought in vain

-- two bytes and more show the empty line at the front
blank_in_two : (k : ℕ) (bytes : List ℕ) → blank_length (take (suc (suc k)) bytes) ≡ blank_length bytes
blank_in_two k [] = refl
blank_in_two k (x ∷ []) = refl
blank_in_two k (x ∷ y ∷ bytes) = refl

neither : (a b : Option ℕ) → option_map suc (or_else a b) ≡ None → (a ≡ None) × (b ≡ None)
neither None None none = (refl, refl)
neither None (Some n) none = absurd (cc)
neither (Some n) b none = absurd (cc)

behind-zero : (found : Option ℕ) → behind zero found ≡ found
behind-zero None = refl
behind-zero (Some n) = ap Some (omega arith)

suc-behind : (i : ℕ) (found : Option ℕ) → behind (suc i) found ≡ option_map suc (behind i found)
suc-behind i None = refl
suc-behind i (Some n) = ap Some (omega arith)

-- where the first k + 2 bytes hold no end, it is found from place k on
from_place : (k : ℕ) (bytes : List ℕ) → head_length (take (suc (suc k)) bytes) ≡ None → behind k (head_length (drop k bytes)) ≡ head_length bytes
unfolding head_length
from_place zero bytes none = behind-zero (head_length bytes)
from_place (suc k) [] none = refl
from_place (suc k) (x ∷ bytes) none =
    let both = neither (if x == 10 then blank_length (take (suc (suc k)) bytes) else None) (head_length (take (suc (suc k)) bytes)) none in
    let here : (if x == 10 then blank_length bytes else None) ≡ None = sym (ap (λ blank. if x == 10 then blank else None) (blank_in_two k bytes)) ∙ both.0 in
    let later = from_place k bytes both.1 in
    suc-behind k (head_length (drop k bytes)) ∙ ap (option_map suc) later ∙ sym (ap (λ blank. option_map suc (or_else blank (head_length bytes))) here)

-- what is found from two bytes before them on is the end
pub from_start : (bytes : List ℕ) (sought start : ℕ) (found : Option ℕ) → HasNoEndWithin sought bytes → start ≡ sought - 2
    → found ≡ head_length (take (length bytes - start) (drop start bytes)) → behind start found ≡ head_length bytes
from_start bytes sought start found is at found_is =
    ap (behind start) (found_is ∙ ap head_length (take_rest bytes start)) ∙ by sought is.none at
  where
    At : ℕ → Type 0
    At place = behind place (head_length (drop place bytes)) ≡ head_length bytes

    by : (s : ℕ) → head_length (take s bytes) ≡ None → start ≡ s - 2 → At start
    by zero none at = let e : zero ≡ start = omega arith in subst At e (behind-zero (head_length bytes))
    by (suc zero) none at = let e : zero ≡ start = omega arith in subst At e (behind-zero (head_length bytes))
    by (suc (suc k)) none at = let e : k ≡ start = omega arith in subst At e (from_place k bytes none)
