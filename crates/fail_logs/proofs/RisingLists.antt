-- A rising list of numbers is the filter of a range by its members.
use Rattle.std.proofs.Common.{ℕ, zero, suc, ◌≡◌, ◌+◌, ◌<◌, ◌≤◌, Bool, true, false, eqb, ◌||◌, List, [], ◌∷◌, ◌++◌, length, get_or, refl, sym, ap, ◌∙◌, arith, inl, inr}
use Rattle.std.specs.List.{filter, list_any, range_with_len}
use Rattle.std.proofs.lemmas.Bool.{cases_lt}
use Rattle.std.proofs.lemmas.Bool.Decides.{nat_tests}

-- each number is above the one before it, and the first is at least a
abbrev pub Rising : ℕ → List ℕ → Type 0
Rising a [] = Unit {0}
Rising a (x ∷ xs) = (a ≤ x) × Rising (x + 1) xs

abbrev pub Below : ℕ → List ℕ → Type 0
Below n [] = Unit {0}
Below n (x ∷ xs) = (x < n) × Below n xs

abbrev pub has_number : List ℕ → ℕ → Bool
has_number xs k = list_any (λ x. eqb x k) xs

not_among : (a b : ℕ) (xs : List ℕ) → a < b → Rising b xs → has_number xs a ≡ false
not_among a b [] lt rising = refl
not_among a b (x ∷ xs) lt rising =
    let apart : eqb x a ≡ false = grind (arith, nat_tests, rising.0) in
    rw apart (not_among a (x + 1) xs (omega (arith, rising.0)) rising.1)

pub Rising-weaken : (a b : ℕ) (xs : List ℕ) → a ≤ b → Rising b xs → Rising a xs
Rising-weaken a b [] le rising = tt
Rising-weaken a b (x ∷ xs) le rising = (omega (arith, rising.0), rising.1)

same_test : (a : ℕ) → eqb a a ≡ true
same_test a = grind (arith, nat_tests)

keeps : (p : ℕ → Bool) (a : ℕ) (xs : List ℕ) → p a ≡ true → filter p (a ∷ xs) ≡ a ∷ filter p xs
keeps p a xs e = rw e refl

skips : (p : ℕ → Bool) (a : ℕ) (xs : List ℕ) → p a ≡ false → filter p (a ∷ xs) ≡ filter p xs
skips p a xs e = rw e refl

pub rising_is_filter : (p : ℕ → Bool) (a n : ℕ) (xs : List ℕ) → Rising a xs → Below (a + n) xs → ((k : ℕ) → a ≤ k → k < a + n → p k ≡ has_number xs k) → xs ≡ filter p (range_with_len a n)
rising_is_filter p a zero [] rising below members = refl
rising_is_filter p a zero (x ∷ xs) rising below members = absurd (omega (arith, rising.0, below.0))
rising_is_filter p a (suc n) [] rising below members =
    rising_is_filter p (a + 1) n [] tt tt (λ k low high. members k (omega arith) (omega arith))
    ∙ sym (skips p a (range_with_len (a + 1) n) (members a (omega arith) (omega arith)))
rising_is_filter p a (suc n) (x ∷ xs) rising below members =
    elim (cases_lt a x) [
      | inl lt ↦
          let none : p a ≡ false = members a (omega arith) (omega arith) ∙ not_among a x (x ∷ xs) lt (omega arith, rising.1) in
          rising_is_filter p (a + 1) n (x ∷ xs) (omega arith, rising.1) (omega (arith, below.0), shift a n xs below.1) (λ k low high. members k (omega arith) (omega arith))
          ∙ sym (skips p a (range_with_len (a + 1) n) none)
      | inr le ↦
          let same : x ≡ a = omega (arith, rising.0) in
          let some : p a ≡ true = members a (omega arith) (omega arith) ∙ rw (same, same_test a) refl in
          ap (λ y. y ∷ xs) same
          ∙ ap (λ ys. a ∷ ys) (rising_is_filter p (a + 1) n xs (Rising-weaken (a + 1) (x + 1) xs (omega arith) rising.1) (shift a n xs below.1) (λ k low high. members k (omega arith) (omega arith) ∙ ap (λ b. b || has_number xs k) (apart x k (omega arith))))
          ∙ sym (keeps p a (range_with_len (a + 1) n) some)
    ]
  where
    shift : (a n : ℕ) (xs : List ℕ) → Below (a + suc n) xs → Below ((a + 1) + n) xs
    shift a n [] below = tt
    shift a n (x ∷ xs) below = (omega (arith, below.0), shift a n xs below.1)

    apart : (x k : ℕ) → x < k → eqb x k ≡ false
    apart x k lt = grind (arith, nat_tests)

-- ---- lists joined, and places

pub Below-weaken : (m n : ℕ) (xs : List ℕ) → m ≤ n → Below m xs → Below n xs
Below-weaken m n [] le below = tt
Below-weaken m n (x ∷ xs) le below = (omega (arith, below.0), Below-weaken m n xs le below.1)

pub Rising-append : (a b : ℕ) (xs ys : List ℕ) → a ≤ b → Rising a xs → Below b xs → Rising b ys → Rising a (xs ++ ys)
Rising-append a b [] ys le rising below more = Rising-weaken a b ys le more
Rising-append a b (x ∷ xs) ys le rising below more = (rising.0, Rising-append (x + 1) b xs ys (omega (arith, below.0)) rising.1 below.1 more)

Rising-from : (a : ℕ) (xs : List ℕ) (k : ℕ) → Rising a xs → k < length xs → a ≤ get_or xs k 0
Rising-from a [] k rising lt = absurd (omega arith)
Rising-from a (x ∷ xs) zero rising lt = rising.0
Rising-from a (x ∷ xs) (suc k) rising lt = omega (arith, rising.0, Rising-from (x + 1) xs k rising.1 (omega arith))

-- the number at a later place is greater
pub Rising-lt : (a : ℕ) (xs : List ℕ) (j k : ℕ) → Rising a xs → j < k → k < length xs → get_or xs j 0 < get_or xs k 0
Rising-lt a [] j k rising lt within = absurd (omega arith)
Rising-lt a (x ∷ xs) j zero rising lt within = absurd (omega arith)
Rising-lt a (x ∷ xs) zero (suc k) rising lt within = omega (arith, Rising-from (x + 1) xs k rising.1 (omega arith))
Rising-lt a (x ∷ xs) (suc j) (suc k) rising lt within = Rising-lt (x + 1) xs j k rising.1 (omega arith) (omega arith)
