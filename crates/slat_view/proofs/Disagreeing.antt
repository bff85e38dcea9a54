-- Places that don't agree with a table of one lane.
use Rattle.std.proofs.Common.{◌≡◌, ℕ, zero, suc, ◌+◌, ◌<◌, ◌≤◌, Bool, true, false, not, ◌&&◌, ◌||◌, List, refl, sym, ap, ◌∙◌, inl, inr, arith}
use Rattle.std.specs.List.{list_any, range_with_len}
use Rattle.std.proofs.lemmas.Bool.{cases_Bool, cases_eq, or_parts}
use Rattle.slat_view.proofs.Ranges.{any_same}

-- a number that passes
pub any_found : (p : ℕ → Bool) (a n : ℕ) → list_any p (range_with_len a n) ≡ true → (k : ℕ) × (p k ≡ true)
any_found p a zero is = absurd cc
any_found p a (suc n) is = elim (cases_Bool (p a)) [
  | inl here ↦ (a, here)
  | inr none ↦ any_found p (a + 1) n (rw none at is)
]

-- where none passes
pub none_found : (p : ℕ → Bool) (a n : ℕ) → list_any p (range_with_len a n) ≡ false → (k : ℕ) → a ≤ k → k < a + n → p k ≡ false
none_found p a zero none k low high = absurd (omega (arith, low, high))
none_found p a (suc n) none k low high =
    let parts = or_parts (p a) (list_any p (range_with_len (a + 1) n)) none in
    elim (cases_eq a k) [
      | inl same ↦ ap p (sym same) ∙ parts.0
      | inr other ↦ none_found p (a + 1) n parts.1 k (omega arith) (omega arith)
    ]

module _ (F P : ℕ → Bool) where
  abbrev against : (ℕ → Bool) → ℕ → Bool
  against c q = (F q && not (c q)) || (P q && c q)

  -- a table that has nothing
  quiet : (f p : Bool) → ((f && not false) || (p && false)) ≡ f
  quiet true p = refl
  quiet false true = refl
  quiet false false = refl

  silent : (f p x : Bool) → x ≡ false → ((f && not x) || (p && x)) ≡ f
  silent f p x is = ap (λ (b : Bool). (f && not b) || (p && b)) is ∙ quiet f p

  pub against_none : (c : ℕ → Bool) (a n : ℕ) → ((q : ℕ) → a ≤ q → q < a + n → c q ≡ false) → list_any (λ q. (F q && not (c q)) || (P q && c q)) (range_with_len a n) ≡ list_any (λ q. F q) (range_with_len a n)
  against_none c a n none = any_same (against c) F a n (λ q low high. silent (F q) (P q) (c q) (none q low high))

  left_out : (x : Bool) → (x && false) ≡ false
  left_out true = refl
  left_out false = refl

  kept_in : (x : Bool) → (x && true) ≡ x
  kept_in true = refl
  kept_in false = refl

  no_fit : (x : Bool) → (x && not x) ≡ false
  no_fit true = refl
  no_fit false = refl

  swap_all : (x f : Bool) → ((x && true) && f) ≡ (f && x)
  swap_all true true = refl
  swap_all true false = refl
  swap_all false true = refl
  swap_all false false = refl

  swap_none : (x f : Bool) → ((x && false) && f) ≡ false
  swap_none true f = refl
  swap_none false f = refl

  -- the same bits, where a mask has the lane or not
  pub against_masked : (c : ℕ → Bool) (m : Bool) (n : ℕ)
      → ((not (list_any (λ q. (F q && not (c q)) || (P q && c q)) (range_with_len 0 n)) && m) && list_any (λ q. F q) (range_with_len 0 n))
      ≡ (list_any (λ q. F q) (range_with_len 0 n) && not (list_any (λ q. (F q && not (c q && m)) || (P q && (c q && m))) (range_with_len 0 n)))
  against_masked c true n =
      swap_all (not (list_any (against c) (range_with_len 0 n))) (list_any F (range_with_len 0 n))
      ∙ ap (λ (b : Bool). list_any F (range_with_len 0 n) && not b) (any_same (against c) (against (λ q. c q && true)) 0 n (λ q low high. ap (λ (x : Bool). (F q && not x) || (P q && x)) (sym (kept_in (c q)))))
  against_masked c false n =
      swap_none (not (list_any (against c) (range_with_len 0 n))) (list_any F (range_with_len 0 n))
      ∙ sym (no_fit (list_any F (range_with_len 0 n)))
      ∙ ap (λ (b : Bool). list_any F (range_with_len 0 n) && not b) (sym (against_none (λ q. c q && false) 0 n (λ q low high. left_out (c q))))

  first_alone : (x y : Bool) → y ≡ false → (x || y) ≡ x
  first_alone true y is = refl
  first_alone false y is = is

  abbrev fit : (ℕ → Bool) → ℕ → Bool
  fit c n = list_any F (range_with_len 0 n) && not (list_any (against c) (range_with_len 0 n))

  unfit : (c : ℕ → Bool) (n : ℕ) → ((q : ℕ) → q < n → c q ≡ false) → fit c n ≡ false
  unfit c n none = ap (λ (b : Bool). list_any F (range_with_len 0 n) && not b) (against_none c 0 n (λ q low high. none q (omega (arith, high)))) ∙ no_fit (list_any F (range_with_len 0 n))

  same_fit : (c d : ℕ → Bool) (n : ℕ) → ((q : ℕ) → q < n → c q ≡ d q) → fit c n ≡ fit d n
  same_fit c d n same = ap (λ (b : Bool). list_any F (range_with_len 0 n) && not b) (any_same (against c) (against d) 0 n (λ q low high. ap (λ (x : Bool). (F q && not x) || (P q && x)) (same q (omega (arith, high)))))

  other_false : (x y : Bool) → x ≡ true → (x && y) ≡ false → y ≡ false
  other_false x y is apart = rw is at apart

  -- two tables of which one has nothing
  pub against_both : (c d : ℕ → Bool) (n : ℕ) → ((q p : ℕ) → (c q && d p) ≡ false)
      → ((list_any (λ q. F q) (range_with_len 0 n) && not (list_any (λ q. (F q && not (c q)) || (P q && c q)) (range_with_len 0 n))) || (list_any (λ q. F q) (range_with_len 0 n) && not (list_any (λ q. (F q && not (d q)) || (P q && d q)) (range_with_len 0 n))))
      ≡ (list_any (λ q. F q) (range_with_len 0 n) && not (list_any (λ q. (F q && not (c q || d q)) || (P q && (c q || d q))) (range_with_len 0 n)))
  against_both c d n apart = elim (cases_Bool (list_any c (range_with_len 0 n))) [
    | inl some ↦
        let found = any_found c 0 n some in
        let none : (q : ℕ) → d q ≡ false = λ q. other_false (c found.0) (d q) found.1 (apart found.0 q) in
        first_alone (fit c n) (fit d n) (unfit d n (λ q lt. none q)) ∙ same_fit c (λ q. c q || d q) n (λ q lt. sym (first_alone (c q) (d q) (none q)))
    | inr silent ↦
        let none : (q : ℕ) → q < n → c q ≡ false = λ q lt. none_found c 0 n silent q (omega arith) (omega (arith, lt)) in
        ap (λ (b : Bool). b || fit d n) (unfit c n none) ∙ same_fit d (λ q. c q || d q) n (λ q lt. ap (λ (b : Bool). b || d q) (sym (none q lt)))
  ]
