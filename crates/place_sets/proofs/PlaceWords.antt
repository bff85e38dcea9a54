-- Words of a set of places.
use Rattle.std.proofs.Common.{◌≡◌, ◌≢◌, ℕ, zero, suc, ◌+◌, ◌-◌, ◌*◌, ◌/◌, ◌%◌, ◌^◌, ◌<◌, ◌≤◌, min, not, ◌||◌, ◌&&◌, eqb, Bool, true, false, true≢false, List, length, get_or, set, Option, Some, None, refl, sym, ap, ◌∙◌, inl, inr, arith, w64}
use Rattle.std.specs.Prelude.{bit_and, bit_or}
use Rattle.std.specs.Int.{bit_at, bit_not, trailing_zeros}
use Rattle.std.specs.Int.Bits.{and_lt}
use Rattle.std.proofs.lemmas.Bool.{cases_eq, cases_lt, eq-eqb, ne_eqb}
use Rattle.std.proofs.lemmas.List.{get_or-set_same, get_or-set_other, get_or_past, length-set}
use Rattle.std.proofs.lemmas.Nat.Bits.{bit_at-lt, bit_at_and, bit_at_set_same, bit_at_set_other, bit_at_clear_same, bit_at_clear_other, bit_at-trailing_zeros, bit_at-zero, bit_at_mask_inside, bit_at_mask_below, ones_shl}
use Rattle.place_sets.specs.Places.{bit_is_set, has_place, IsNextFrom, IsNextWithin, IsFilled}

-- ---- one word

abbrev pub from_bit : ℕ → ℕ → ℕ
from_bit word low = bit_and word ((2 ^ 64 - 1) * 2 ^ low % 2 ^ 64)

min_one : (b : ℕ) → b < 2 → min b 1 ≡ b
min_one zero lt = refl
min_one (suc zero) lt = refl
min_one (suc (suc b)) lt = absurd (omega arith)

min_zero : (b : ℕ) → b < 2 → min b 0 ≡ 0
min_zero zero lt = refl
min_zero (suc zero) lt = refl
min_zero (suc (suc b)) lt = absurd (omega arith)

above : (n : ℕ) → n ≢ 0 → 0 < n
above zero ne = absurd (ne refl)
above (suc n) ne = omega arith

one_zero : (b : ℕ) → b ≡ 1 → b ≡ 0 → ⊥
one_zero b one none = omega arith

no_bit_of_zero : (k : ℕ) → bit_is_set 0 k ≡ false
no_bit_of_zero k = ap (λ (b : ℕ). eqb b 1) (bit_at-zero k)

first_bit : (word : ℕ) → word < 2 ^ 64 → word ≢ 0 → IsNextWithin (bit_is_set word) 0 64 (Some (trailing_zeros w64 word))
first_bit word word_lt some =
    let found = bit_at-trailing_zeros w64 word (above word some) word_lt in (
      omega arith,
      found.0,
      eq-eqb (bit_at word (trailing_zeros w64 word)) 1 found.1,
      λ j le lt. ap (λ (b : ℕ). eqb b 1) (found.2 j lt),
    )

module _ (word low : ℕ) (low_lt : low < 64) where
  from_bit_is : (k : ℕ) → bit_at (from_bit word low) k ≡ min (bit_at word k) (bit_at (2 ^ 64 - 2 ^ low) k)
  from_bit_is k = bit_at_and word ((2 ^ 64 - 1) * 2 ^ low % 2 ^ 64) k ∙ ap (λ (m : ℕ). min (bit_at word k) (bit_at m k)) (ones_shl 64 low (omega arith))

  from_bit_kept : (k : ℕ) → low ≤ k → k < 64 → bit_at (from_bit word low) k ≡ bit_at word k
  from_bit_kept k le lt = from_bit_is k ∙ ap (min (bit_at word k)) (bit_at_mask_inside low 64 k le lt) ∙ min_one (bit_at word k) (bit_at-lt word k)

  from_bit_gone : (k : ℕ) → k < low → bit_at (from_bit word low) k ≡ 0
  from_bit_gone k lt = from_bit_is k ∙ ap (min (bit_at word k)) (bit_at_mask_below low 64 k lt) ∙ min_zero (bit_at word k) (bit_at-lt word k)

  pub no_bit : from_bit word low ≡ 0 → IsNextWithin (bit_is_set word) low 64 None
  no_bit none k le lt =
      let bit : bit_at word k ≡ 0 = sym (from_bit_kept k le lt) ∙ ap (λ (n : ℕ). bit_at n k) none ∙ bit_at-zero k in
      ap (λ (b : ℕ). eqb b 1) bit

  pub some_bit : word < 2 ^ 64 → from_bit word low ≢ 0 → IsNextWithin (bit_is_set word) low 64 (Some (trailing_zeros w64 (from_bit word low)))
  some_bit word_lt some =
      let rest = from_bit word low in
      let t = trailing_zeros w64 rest in
      let mask_lt : (2 ^ 64 - 1) * 2 ^ low % 2 ^ 64 < 2 ^ 64 = omega arith in
      let rest_lt : rest < 2 ^ 64 = and_lt 64 word ((2 ^ 64 - 1) * 2 ^ low % 2 ^ 64) word_lt mask_lt in
      let found = bit_at-trailing_zeros w64 rest (above rest some) rest_lt in
      let from_low : low ≤ t = elim (cases_lt t low) [
        | inl before ↦ absurd (one_zero (bit_at rest t) found.1 (from_bit_gone t before))
        | inr after ↦ after
      ] in (
        from_low,
        found.0,
        eq-eqb (bit_at word t) 1 (sym (from_bit_kept t from_low found.0) ∙ found.1),
        λ j le lt. let bit : bit_at word j ≡ 0 = sym (from_bit_kept j le (omega (arith, found.0))) ∙ found.2 j lt in ap (λ (b : ℕ). eqb b 1) bit,
      )

-- ---- one word of a set

module _ (words : List ℕ) (word : ℕ) where
  has_at : (i k : ℕ) → k < 64 → i ≡ word * 64 + k → has_place words i ≡ bit_is_set (get_or words word 0) k
  has_at i k lt is =
      let at : i / 64 ≡ word = omega arith in
      let bit : i % 64 ≡ k = omega arith in
      ap (λ (n : ℕ). bit_is_set (get_or words n 0) (i % 64)) at ∙ ap (bit_is_set (get_or words word 0)) bit

  pub no_place : (low : ℕ) → IsNextWithin (bit_is_set (get_or words word 0)) low 64 None → IsNextWithin (has_place words) (word * 64 + low) (word * 64 + 64) None
  no_place low none k le lt = has_at k (k - word * 64) (omega arith) (omega arith) ∙ none (k - word * 64) (omega arith) (omega arith)

  pub some_place : (low bit : ℕ) → IsNextWithin (bit_is_set (get_or words word 0)) low 64 (Some bit) → IsNextWithin (has_place words) (word * 64 + low) (word * 64 + 64) (Some (word * 64 + bit))
  some_place low bit some = (
    omega (arith, some.0),
    omega (arith, some.1),
    has_at (word * 64 + bit) bit some.1 refl ∙ some.2,
    λ j le lt. has_at j (j - word * 64) (omega (arith, some.1)) (omega arith) ∙ some.3 (j - word * 64) (omega arith) (omega arith),
  )

-- ---- one word of two sets

both_bits : (a b : ℕ) → a < 2 → b < 2 → eqb (min a b) 1 ≡ (eqb a 1 && eqb b 1)
both_bits zero zero a_lt b_lt = refl
both_bits zero (suc zero) a_lt b_lt = refl
both_bits (suc zero) zero a_lt b_lt = refl
both_bits (suc zero) (suc zero) a_lt b_lt = refl
both_bits (suc (suc a)) b a_lt b_lt = absurd (omega arith)
both_bits zero (suc (suc b)) a_lt b_lt = absurd (omega arith)
both_bits (suc zero) (suc (suc b)) a_lt b_lt = absurd (omega arith)

bit_of_both : (a b k : ℕ) → bit_is_set (bit_and a b) k ≡ (bit_is_set a k && bit_is_set b k)
bit_of_both a b k = ap (λ (n : ℕ). eqb n 1) (bit_at_and a b k) ∙ both_bits (bit_at a k) (bit_at b k) (bit_at-lt a k) (bit_at-lt b k)

module _ (words others : List ℕ) where
  abbrev pub in_both : ℕ → Bool
  in_both k = has_place words k && has_place others k

  abbrev pub both_word : ℕ → ℕ
  both_word word = bit_and (get_or words word 0) (get_or others word 0)

  both_at : (word i k : ℕ) → k < 64 → i ≡ word * 64 + k → in_both i ≡ bit_is_set (both_word word) k
  both_at word i k lt is = ap (λ (b : Bool). b && has_place others i) (has_at words word i k lt is) ∙ ap (λ (b : Bool). bit_is_set (get_or words word 0) k && b) (has_at others word i k lt is)
      ∙ sym (bit_of_both (get_or words word 0) (get_or others word 0) k)

  pub none_of_both : (word low : ℕ) → IsNextWithin (bit_is_set (both_word word)) low 64 None → IsNextWithin in_both (word * 64 + low) (word * 64 + 64) None
  none_of_both word low none k le lt = both_at word k (k - word * 64) (omega arith) (omega arith) ∙ none (k - word * 64) (omega arith) (omega arith)

  pub one_of_both : (word low bit : ℕ) → IsNextWithin (bit_is_set (both_word word)) low 64 (Some bit) → IsNextWithin in_both (word * 64 + low) (word * 64 + 64) (Some (word * 64 + bit))
  one_of_both word low bit some = (
    omega (arith, some.0),
    omega (arith, some.1),
    both_at word (word * 64 + bit) bit some.1 refl ∙ some.2,
    λ j le lt. both_at word j (j - word * 64) (omega (arith, some.1)) (omega arith) ∙ some.3 (j - word * 64) (omega arith) (omega arith),
  )

-- ---- a place put in, a place taken out

module _ (words : List ℕ) (place : ℕ) (inside : place / 64 < length words) where
  other_word : (w k : ℕ) → k / 64 ≢ place / 64 → has_place (set words (place / 64) w) k ≡ has_place words k
  other_word w k apart = ap (λ (n : ℕ). bit_is_set n (k % 64)) (get_or-set_other words (place / 64) (k / 64) w 0 apart)

  same_word : (w k : ℕ) → k / 64 ≡ place / 64 → has_place (set words (place / 64) w) k ≡ bit_is_set w (k % 64)
  same_word w k same = ap (λ (n : ℕ). bit_is_set n (k % 64)) (ap (λ (n : ℕ). get_or (set words (place / 64) w) n 0) same ∙ get_or-set_same words (place / 64) w 0 inside)

  old_word : (k : ℕ) → k / 64 ≡ place / 64 → has_place words k ≡ bit_is_set (get_or words (place / 64) 0) (k % 64)
  old_word k same = ap (λ (n : ℕ). bit_is_set (get_or words n 0) (k % 64)) same

  abbrev pub put_in : ℕ
  put_in = bit_or (get_or words (place / 64) 0) (1 * 2 ^ (place % 64) % 2 ^ 64)

  abbrev pub taken_out : ℕ
  taken_out = bit_and (get_or words (place / 64) 0) (bit_not w64 (1 * 2 ^ (place % 64) % 2 ^ 64))

  pub has_put : (k : ℕ) → has_place (set words (place / 64) put_in) k ≡ (eqb k place || has_place words k)
  has_put k = elim (cases_eq k place) [
    | inl same ↦ rw (eq-eqb k place same) (
        same_word put_in k (ap (λ (n : ℕ). n / 64) same)
        ∙ ap (λ (n : ℕ). bit_is_set put_in (n % 64)) same
        ∙ eq-eqb (bit_at put_in (place % 64)) 1 (bit_at_set_same w64 (get_or words (place / 64) 0) (place % 64) (omega arith)))
    | inr other ↦ rw (ne_eqb k place other) (elim (cases_eq (k / 64) (place / 64)) [
      | inl same ↦
          let apart : k % 64 ≢ place % 64 = λ e. other (omega arith) in
          same_word put_in k same
          ∙ ap (λ (b : ℕ). eqb b 1) (bit_at_set_other w64 (get_or words (place / 64) 0) (place % 64) (omega arith) (k % 64) apart)
          ∙ sym (old_word k same)
      | inr far ↦ other_word put_in k far
    ])
  ]

  pub has_taken : (k : ℕ) → has_place (set words (place / 64) taken_out) k ≡ (not (eqb k place) && has_place words k)
  has_taken k = elim (cases_eq k place) [
    | inl same ↦ rw (eq-eqb k place same) (
        same_word taken_out k (ap (λ (n : ℕ). n / 64) same)
        ∙ ap (λ (n : ℕ). bit_is_set taken_out (n % 64)) same
        ∙ ap (λ (b : ℕ). eqb b 1) (bit_at_clear_same w64 (get_or words (place / 64) 0) (place % 64) (omega arith)))
    | inr other ↦ rw (ne_eqb k place other) (elim (cases_eq (k / 64) (place / 64)) [
      | inl same ↦
          let apart : k % 64 ≢ place % 64 = λ e. other (omega arith) in
          same_word taken_out k same
          ∙ ap (λ (b : ℕ). eqb b 1) (bit_at_clear_other w64 (get_or words (place / 64) 0) (place % 64) (omega arith) (k % 64) (omega arith) apart)
          ∙ sym (old_word k same)
      | inr far ↦ other_word taken_out k far
    ])
  ]

-- ---- the words that aren't empty

no_place_of_zero : (words : List ℕ) (k : ℕ) → get_or words (k / 64) 0 ≡ 0 → has_place words k ≡ false
no_place_of_zero words k none = ap (λ (n : ℕ). bit_is_set n (k % 64)) none ∙ no_bit_of_zero (k % 64)

pub no_place_past : (words : List ℕ) (k : ℕ) → 64 * length words ≤ k → has_place words k ≡ false
no_place_past words k past = no_place_of_zero words k (get_or_past words (k / 64) 0 (omega (arith, past)))

-- none of a kind before an end, and the next one behind it
pub next_behind : (is_of_kind : ℕ → Bool) (from end : ℕ) (result : Option ℕ) → from ≤ end → ((k : ℕ) → from ≤ k → k < end → is_of_kind k ≡ false) → IsNextFrom is_of_kind end result → IsNextFrom is_of_kind from result
next_behind is_of_kind from end None le before next = λ k from_k. elim (cases_lt k end) [
  | inl early ↦ before k from_k early
  | inr late ↦ next k late
]
next_behind is_of_kind from end (Some found) le before next = (
  omega (arith, le, next.0),
  next.1,
  λ j from_j lt. elim (cases_lt j end) [
    | inl early ↦ before j from_j early
    | inr late ↦ next.2 j late lt
  ],
)

module _ (words filled : List ℕ) (is : IsFilled words filled) where
  not_empty : (k : ℕ) → has_place filled k ≡ true → get_or words k 0 ≢ 0
  not_empty k has none = absurd (true≢false (sym has ∙ is.each k ∙ ap (λ (n : ℕ). not (eqb n 0)) none))

  pub word_within : (k : ℕ) → has_place filled k ≡ true → k < length words
  word_within k has = elim (cases_lt k (length words)) [
    | inl within ↦ within
    | inr past ↦ absurd (not_empty k has (get_or_past words k 0 past))
  ]

  empty : (k : ℕ) → has_place filled k ≡ false → get_or words k 0 ≡ 0
  empty k has = elim (cases_eq (get_or words k 0) 0) [
    | inl none ↦ none
    | inr some ↦ absurd (true≢false (sym (is.each k ∙ ap not (ne_eqb (get_or words k 0) 0 some)) ∙ has))
  ]

  pub first_behind : (from word : ℕ) → get_or words word 0 < 2 ^ 64 → IsNextFrom (has_place filled) from (Some word) → IsNextFrom (has_place words) (64 * from) (Some (word * 64 + trailing_zeros w64 (get_or words word 0)))
  first_behind from word fits next =
      let first = some_place words word 0 (trailing_zeros w64 (get_or words word 0)) (first_bit (get_or words word 0) fits (not_empty word next.1)) in (
        omega (arith, next.0),
        first.2,
        λ j le lt. elim (cases_lt j (word * 64)) [
          | inl before ↦ no_place_of_zero words j (empty (j / 64) (next.2 (j / 64) (omega (arith, le)) (omega (arith, before))))
          | inr within ↦ first.3 j (omega (arith, within)) lt
        ],
      )

  -- ---- the places of two sets, from the next filled word of the first to the next
  pub none_up_to : (others : List ℕ) (from past word : ℕ) → ((k : ℕ) → from ≤ k → k < 64 * past → in_both words others k ≡ false)
      → ((j : ℕ) → past ≤ j → j < word → has_place filled j ≡ false) → (k : ℕ) → from ≤ k → k < 64 * word → in_both words others k ≡ false
  none_up_to others from past word before gap k le lt = elim (cases_lt k (64 * past)) [
    | inl early ↦ before k le early
    | inr late ↦ ap (λ (b : Bool). b && has_place others k) (no_place_of_zero words k (empty (k / 64) (gap (k / 64) (omega (arith, late)) (omega (arith, lt)))))
  ]

  pub none_in_word : (others : List ℕ) (from past word : ℕ) → ((k : ℕ) → from ≤ k → k < 64 * past → in_both words others k ≡ false) → IsNextFrom (has_place filled) past (Some word)
      → IsNextWithin (in_both words others) (word * 64 + 0) (word * 64 + 64) None → (k : ℕ) → from ≤ k → k < 64 * (word + 1) → in_both words others k ≡ false
  none_in_word others from past word before next none k le lt = elim (cases_lt k (64 * word)) [
    | inl early ↦ none_up_to others from past word before next.2 k le early
    | inr late ↦ none k (omega (arith, late)) (omega (arith, lt))
  ]

  pub one_in_word : (others : List ℕ) (from past word place : ℕ) → from ≤ 64 * past → ((k : ℕ) → from ≤ k → k < 64 * past → in_both words others k ≡ false) → IsNextFrom (has_place filled) past (Some word)
      → IsNextWithin (in_both words others) (word * 64 + 0) (word * 64 + 64) (Some place) → IsNextFrom (in_both words others) from (Some place)
  one_in_word others from past word place from_le before next one = (
    omega (arith, from_le, next.0, one.0),
    one.2,
    λ j le lt. elim (cases_lt j (64 * word)) [
      | inl early ↦ none_up_to others from past word before next.2 j le early
      | inr late ↦ one.3 j (omega (arith, late)) lt
    ],
  )

  pub none_of_filled : (others : List ℕ) (from past : ℕ) → ((k : ℕ) → from ≤ k → k < 64 * past → in_both words others k ≡ false) → IsNextFrom (has_place filled) past None → IsNextFrom (in_both words others) from None
  none_of_filled others from past before none k le = none_up_to others from past (k / 64 + 1) before (λ j past_le lt. none j past_le) k le (omega arith)

  -- ---- the words emptied one by one, from the next filled one to the next
  pub emptied_more : (now : List ℕ) (from word : ℕ) → length now ≡ length words → ((k : ℕ) → k < from → get_or now k 0 ≡ 0) → ((k : ℕ) → from ≤ k → get_or now k 0 ≡ get_or words k 0)
      → IsNextFrom (has_place filled) from (Some word) → (k : ℕ) → k < word + 1 → get_or (set now word 0) k 0 ≡ 0
  emptied_more now from word len before rest next k lt = elim (cases_eq k word) [
    | inl same ↦ ap (λ (n : ℕ). get_or (set now word 0) n 0) same ∙ get_or-set_same now word 0 0 (omega (arith, len, word_within word next.1))
    | inr other ↦ get_or-set_other now word k 0 0 other ∙ elim (cases_lt k from) [
      | inl early ↦ before k early
      | inr late ↦ rest k late ∙ empty k (next.2 k late (omega arith))
    ]
  ]

  pub emptied_rest : (now : List ℕ) (from word : ℕ) → from ≤ word → ((k : ℕ) → from ≤ k → get_or now k 0 ≡ get_or words k 0) → (k : ℕ) → word + 1 ≤ k → get_or (set now word 0) k 0 ≡ get_or words k 0
  emptied_rest now from word le rest k past = get_or-set_other now word k 0 0 (λ e. omega arith) ∙ rest k (omega arith)

  pub emptied_all : (now : List ℕ) (from : ℕ) → ((k : ℕ) → k < from → get_or now k 0 ≡ 0) → ((k : ℕ) → from ≤ k → get_or now k 0 ≡ get_or words k 0)
      → IsNextFrom (has_place filled) from None → (k : ℕ) → get_or now k 0 ≡ 0
  emptied_all now from before rest none k = elim (cases_lt k from) [
    | inl early ↦ before k early
    | inr late ↦ rest k late ∙ empty k (none k late)
  ]

module _ (words filled : List ℕ) (is : IsFilled words filled) (place : ℕ) (inside : place / 64 < length words) where
  abbrev pub filled_inside : place / 64 / 64 < length filled
  filled_inside = omega (arith, inside, is.spans)

  word_is : (w k : ℕ) → k ≡ place / 64 → get_or (set words (place / 64) w) k 0 ≡ w
  word_is w k same = ap (λ (n : ℕ). get_or (set words (place / 64) w) n 0) same ∙ get_or-set_same words (place / 64) w 0 inside

  filled_word : (w k : ℕ) → w ≢ 0 → k ≡ place / 64 → not (eqb (get_or (set words (place / 64) w) k 0) 0) ≡ true
  filled_word w k some same = ap (λ (n : ℕ). not (eqb n 0)) (word_is w k same) ∙ ap not (ne_eqb w 0 some)

  left_word : (w k : ℕ) → k ≢ place / 64 → has_place filled k ≡ not (eqb (get_or (set words (place / 64) w) k 0) 0)
  left_word w k other = is.each k ∙ sym (ap (λ (n : ℕ). not (eqb n 0)) (get_or-set_other words (place / 64) k w 0 other))

  put_is_some : put_in words place inside ≢ 0
  put_is_some none = one_zero (bit_at (put_in words place inside) (place % 64))
      (bit_at_set_same w64 (get_or words (place / 64) 0) (place % 64) (omega arith))
      (ap (λ (n : ℕ). bit_at n (place % 64)) none ∙ bit_at-zero (place % 64))

  pub filled_put : IsFilled (set words (place / 64) (put_in words place inside)) (set filled (place / 64 / 64) (put_in filled (place / 64) filled_inside))
  filled_put = record {
    fits = omega (arith, is.fits, length-set words (place / 64) (put_in words place inside));
    spans = omega (arith, is.spans, length-set words (place / 64) (put_in words place inside), length-set filled (place / 64 / 64) (put_in filled (place / 64) filled_inside));
    few = omega (arith, is.few, length-set filled (place / 64 / 64) (put_in filled (place / 64) filled_inside));
    each = λ k. has_put filled (place / 64) filled_inside k ∙ elim (cases_eq k (place / 64)) [
      | inl same ↦ rw (eq-eqb k (place / 64) same) (sym (filled_word (put_in words place inside) k put_is_some same))
      | inr other ↦ rw (ne_eqb k (place / 64) other) (left_word (put_in words place inside) k other)
    ];
  }

  pub filled_taken : taken_out words place inside ≡ 0 → IsFilled (set words (place / 64) (taken_out words place inside)) (set filled (place / 64 / 64) (taken_out filled (place / 64) filled_inside))
  filled_taken none = record {
    fits = omega (arith, is.fits, length-set words (place / 64) (taken_out words place inside));
    spans = omega (arith, is.spans, length-set words (place / 64) (taken_out words place inside), length-set filled (place / 64 / 64) (taken_out filled (place / 64) filled_inside));
    few = omega (arith, is.few, length-set filled (place / 64 / 64) (taken_out filled (place / 64) filled_inside));
    each = λ k. has_taken filled (place / 64) filled_inside k ∙ elim (cases_eq k (place / 64)) [
      | inl same ↦ rw (eq-eqb k (place / 64) same) (sym (ap (λ (n : ℕ). not (eqb n 0)) (word_is (taken_out words place inside) k same ∙ none)))
      | inr other ↦ rw (ne_eqb k (place / 64) other) (left_word (taken_out words place inside) k other)
    ];
  }
