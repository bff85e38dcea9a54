-- Tests over ranges of numbers.
use Rattle.std.proofs.Common.{◌≡◌, ℕ, zero, suc, ◌+◌, ◌<◌, ◌⊎◌, Bool, true, false, ◌||◌, [], ◌∷◌, ◌++◌, get_or, refl, sym, ap, ◌∙◌, inl, inr, arith}
use Rattle.std.specs.List.{range_with_len, list_any}
use Rattle.std.proofs.lemmas.Bool.{cases_Bool, cases_eq}
use Rattle.std.proofs.lemmas.List.{map-id}
use Rattle.std.proofs.lemmas.List.Folds.{list_any-append, list_any_at}
use Rattle.std.proofs.lemmas.List.FromFn.{length-range_with_len, get_or-range_with_len, map-range_with_len_more}
use Rattle.scan_model.proofs.FanSweeps.{any_found, same_answer}

pub range_more : (n : ℕ) → range_with_len 0 (n + 1) ≡ range_with_len 0 n ++ n ∷ []
range_more n =
    let e = map-range_with_len_more (λ (x : ℕ). x) 0 n n (omega arith) in
    simp map-id at e

or_false : (b : Bool) → (b || false) ≡ b
or_false true = refl
or_false false = refl

-- one number more
pub any_more : (p : ℕ → Bool) (n : ℕ) → list_any p (range_with_len 0 (n + 1)) ≡ (list_any p (range_with_len 0 n) || p n)
any_more p n = rw (range_more n, list_any-append p (range_with_len 0 n) (n ∷ [])) (ap (λ b. list_any p (range_with_len 0 n) || b) (or_false (p n)))

pub any_at : (p : ℕ → Bool) (n k : ℕ) → k < n → p k ≡ true → list_any p (range_with_len 0 n) ≡ true
any_at p n k lt e =
    let at : get_or (range_with_len 0 n) k 0 ≡ k = get_or-range_with_len 0 n k 0 lt ∙ omega arith in
    list_any_at p (range_with_len 0 n) k 0 (omega (arith, length-range_with_len 0 n)) (ap p at ∙ e)

pub any_there : (p : ℕ → Bool) (n : ℕ) → list_any p (range_with_len 0 n) ≡ true → (k : ℕ) × (k < n) × (p k ≡ true)
any_there p n e =
    let r = any_found p (range_with_len 0 n) e in
    let len = length-range_with_len 0 n in
    let lt : r.1.0 < n = omega (arith, r.1.1, len) in
    let at : r.0 ≡ r.1.0 = sym r.1.2 ∙ get_or-range_with_len 0 n r.1.0 r.0 lt ∙ omega arith in
    (r.1.0, lt, ap p (sym at) ∙ r.2)

-- tests that agree on the range
pub any_same : (p q : ℕ → Bool) (n : ℕ) → ((k : ℕ) → k < n → p k ≡ q k) → list_any p (range_with_len 0 n) ≡ list_any q (range_with_len 0 n)
any_same p q n agree = same_answer (list_any p (range_with_len 0 n)) (list_any q (range_with_len 0 n))
    (λ e. let r = any_there p n e in any_at q n r.0 r.1 (sym (agree r.0 r.1) ∙ r.2))
    (λ e. let r = any_there q n e in any_at p n r.0 r.1 (agree r.0 r.1 ∙ r.2))

pub any_none : (p : ℕ → Bool) (n : ℕ) → ((k : ℕ) → k < n → p k ≡ false) → list_any p (range_with_len 0 n) ≡ false
any_none p n none = elim (cases_Bool (list_any p (range_with_len 0 n))) [
  | inl some ↦ let r = any_there p n some in absurd (let e : true ≡ false = sym r.2 ∙ none r.0 r.1 in cc)
  | inr is ↦ is
]

-- a number below n that passes, or none
pub search_below : (p : ℕ → Bool) (n : ℕ) → ((k : ℕ) × (k < n) × (p k ≡ true)) ⊎ ((k : ℕ) → k < n → p k ≡ false)
search_below p zero = inr (λ k lt. absurd (omega arith))
search_below p (suc n) = elim (search_below p n) [
  | inl found ↦ inl (found.0, omega (arith, found.1), found.2)
  | inr none ↦ elim (cases_Bool (p n)) [
    | inl here ↦ inl (n, omega arith, here)
    | inr not_here ↦ inr (λ k lt. elim (cases_eq k n) [ inl same ↦ ap p same ∙ not_here | inr other ↦ none k (omega (arith, other)) ])
  ]
]
