-- Numbers that pass a test, in rising order, as an order of evaluation.
use Rattle.std.proofs.Common.{◌≡◌, ℕ, zero, suc, ◌+◌, ◌<◌, ◌≤◌, Bool, true, false, cond, List, [], ◌∷◌, ◌++◌, length, get_or, take, refl, ap, ◌∙◌, inl, inr, arith}
use Rattle.std.specs.Prelude.{filter, map, Contains}
use Rattle.std.specs.List.{range_with_len}
use Rattle.std.proofs.lemmas.Bool.{cases_eq, both_ways}
use Rattle.std.proofs.lemmas.List.{map-id}
use Rattle.std.proofs.lemmas.List.FromFn.{filter_of_map_range_with_len_more}

pub Contains-cons : (y : ℕ) (xs : List ℕ) (x : ℕ) → Contains xs x → Contains (y ∷ xs) x
Contains-cons y xs x h = (suc h.0, omega arith, h.2)

-- the k-th number that passes is in range and passes
pub filter_range_at : (p : ℕ → Bool) (a n k d : ℕ) → k < length (filter p (range_with_len a n)) → (a ≤ get_or (filter p (range_with_len a n)) k d) × (get_or (filter p (range_with_len a n)) k d < a + n) × (p (get_or (filter p (range_with_len a n)) k d) ≡ true)
filter_range_at p a zero k d lt = absurd (omega arith)
filter_range_at p a (suc n) k d lt =
    let F : List ℕ = filter p (range_with_len (a + 1) n) in
    elim (p a) as (λ b. (p a ≡ b) → k < length (cond b (a ∷ F) F) → (a ≤ get_or (cond b (a ∷ F) F) k d) × (get_or (cond b (a ∷ F) F) k d < a + suc n) × (p (get_or (cond b (a ∷ F) F) k d) ≡ true)) [
      | true ↦ λ e l. cons_at p a n d F k e (λ j m. filter_range_at p (a + 1) n j d m) l
      | false ↦ λ e l. let r = filter_range_at p (a + 1) n k d l in (omega arith, omega arith, r.2)
    ] refl lt
  where
    cons_at : (p : ℕ → Bool) (a n d : ℕ) (F : List ℕ) (k : ℕ) → p a ≡ true → ((j : ℕ) → j < length F → (a + 1 ≤ get_or F j d) × (get_or F j d < (a + 1) + n) × (p (get_or F j d) ≡ true)) → k < length (a ∷ F) → (a ≤ get_or (a ∷ F) k d) × (get_or (a ∷ F) k d < a + suc n) × (p (get_or (a ∷ F) k d) ≡ true)
    cons_at p a n d F zero e ih l = (omega arith, omega arith, e)
    cons_at p a n d F (suc j) e ih l = let r = ih j (omega arith) in (omega arith, omega arith, r.2)

-- each number in range that passes stands there
pub filter_range_all : (p : ℕ → Bool) (a n x : ℕ) → a ≤ x → x < a + n → p x ≡ true → Contains (filter p (range_with_len a n)) x
filter_range_all p a zero x low high passes = absurd (omega arith)
filter_range_all p a (suc n) x low high passes =
    let F : List ℕ = filter p (range_with_len (a + 1) n) in
    elim (p a) as (λ b. (p a ≡ b) → Contains (cond b (a ∷ F) F) x) [
      | true ↦ λ e. elim (cases_eq a x) [
        | inl same ↦ (0, omega arith, same)
        | inr other ↦ Contains-cons a F x (filter_range_all p (a + 1) n x (omega arith) (omega arith) passes)
      ]
      | false ↦ λ e. elim (cases_eq a x) [
        | inl same ↦ absurd (both_ways (p a) e (ap p same ∙ passes))
        | inr other ↦ filter_range_all p (a + 1) n x (omega arith) (omega arith) passes
      ]
    ] refl

-- a smaller number that passes stands before
pub filter_range_before : (p : ℕ → Bool) (a n k d x : ℕ) → k < length (filter p (range_with_len a n)) → a ≤ x → x < get_or (filter p (range_with_len a n)) k d → p x ≡ true → Contains (take k (filter p (range_with_len a n))) x
filter_range_before p a zero k d x lt low high passes = absurd (omega arith)
filter_range_before p a (suc n) k d x lt low high passes =
    let F : List ℕ = filter p (range_with_len (a + 1) n) in
    elim (p a) as (λ b. (p a ≡ b) → k < length (cond b (a ∷ F) F) → x < get_or (cond b (a ∷ F) F) k d → Contains (take k (cond b (a ∷ F) F)) x) [
      | true ↦ λ e l below. cons_before a d F k x (λ j m up b. filter_range_before p (a + 1) n j d x m up b passes) l low below
      | false ↦ λ e l below. elim (cases_eq a x) [
        | inl same ↦ absurd (both_ways (p a) e (ap p same ∙ passes))
        | inr other ↦ filter_range_before p (a + 1) n k d x l (omega arith) below passes
      ]
    ] refl lt high
  where
    cons_before : (a d : ℕ) (F : List ℕ) (k x : ℕ) → ((j : ℕ) → j < length F → a + 1 ≤ x → x < get_or F j d → Contains (take j F) x) → k < length (a ∷ F) → a ≤ x → x < get_or (a ∷ F) k d → Contains (take k (a ∷ F)) x
    cons_before a d F zero x ih l low below = absurd (omega arith)
    cons_before a d F (suc j) x ih l low below = elim (cases_eq a x) [
      | inl same ↦ (0, omega arith, same)
      | inr other ↦ Contains-cons a (take j F) x (ih j (omega arith) (omega arith) below)
    ]

-- they rise
pub filter_range_rises : (p : ℕ → Bool) (a n i j : ℕ) → i ≤ j → j < length (filter p (range_with_len a n)) → get_or (filter p (range_with_len a n)) i 0 ≤ get_or (filter p (range_with_len a n)) j 0
filter_range_rises p a zero i j le lt = absurd (omega arith)
filter_range_rises p a (suc n) i j le lt =
    let F : List ℕ = filter p (range_with_len (a + 1) n) in
    elim (p a) as (λ b. j < length (cond b (a ∷ F) F) → get_or (cond b (a ∷ F) F) i 0 ≤ get_or (cond b (a ∷ F) F) j 0) [
      | true ↦ λ l. cons_rises a F i j (λ k m. (filter_range_at p (a + 1) n k 0 m).0) (λ k m up below. filter_range_rises p (a + 1) n k m up below) le l
      | false ↦ λ l. filter_range_rises p (a + 1) n i j le l
    ] lt
  where
    cons_rises : (a : ℕ) (F : List ℕ) (i j : ℕ) → ((k : ℕ) → k < length F → a + 1 ≤ get_or F k 0) → ((k m : ℕ) → k ≤ m → m < length F → get_or F k 0 ≤ get_or F m 0) → i ≤ j → j < length (a ∷ F) → get_or (a ∷ F) i 0 ≤ get_or (a ∷ F) j 0
    cons_rises a F zero zero low up le l = omega arith
    cons_rises a F zero (suc j) low up le l = omega (arith, low j (omega arith))
    cons_rises a F (suc i) zero low up le l = absurd (omega arith)
    cons_rises a F (suc i) (suc j) low up le l = up i j (omega arith) (omega arith)

-- one more number
pub filter_range_more : (p : ℕ → Bool) (n : ℕ) → filter p (range_with_len 0 (n + 1)) ≡ filter p (range_with_len 0 n) ++ cond (p n) (n ∷ []) []
filter_range_more p n =
    let e : filter p (map (λ (x : ℕ). x) (range_with_len 0 (n + 1))) ≡ filter p (map (λ (x : ℕ). x) (range_with_len 0 n)) ++ cond (p n) (n ∷ []) [] = filter_of_map_range_with_len_more p (λ x. x) 0 n n (omega arith) in
    simp map-id at e
