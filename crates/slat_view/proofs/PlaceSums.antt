-- Sums over places that don't agree with a fault, and over lanes.
use Rattle.std.proofs.Common.{◌≡◌, ◌≢◌, ℕ, zero, suc, ◌+◌, ◌*◌, ◌<◌, ◌≤◌, Bool, true, false, not, cond, eqb, ◌&&◌, ◌||◌, List, [], ◌∷◌, refl, sym, ap, ◌∙◌, inl, inr, arith}
use Rattle.std.specs.Prelude.{sum_by, count_by}
use Rattle.std.specs.List.{list_any, range_with_len}
use Rattle.std.proofs.lemmas.Bool.{cases_Bool, cases_eq, eq-eqb, ne_eqb}
use Rattle.std.proofs.lemmas.List.FromFn.{length-range_with_len}
use Rattle.std.proofs.lemmas.List.Sums.{sum_by-cons, sum_by-le, sum_by-append}
use Rattle.fault_universe.proofs.BitSteps.{range_more}
use Rattle.lane_rows.specs.Lanes.{lane, count_lanes}
use Rattle.lane_rows.proofs.LaneCounts.{count_lanes_is}
use Rattle.pattern_fits.specs.LaneNumbers.{one}
use Rattle.slat_view.specs.Places.{bad}

-- none passes where their number is 0
pub none_passes : {X : Type 0} (A : X → Bool) (xs : List X) → not (list_any A xs) ≡ eqb (sum_by (λ x. cond (A x) 1 0) xs) 0
none_passes A [] = refl
none_passes {X = X} A (x ∷ xs) = rw (sum_by-cons (λ (q : X). cond (A q) 1 0) x xs) (elim (cases_Bool (A x)) [
  | inl is ↦ rw (is, ne_eqb (1 + sum_by (λ q. cond (A q) 1 0) xs) 0 (λ e. omega arith)) refl
  | inr none ↦
      let e : 0 + sum_by (λ q. cond (A q) 1 0) xs ≡ sum_by (λ q. cond (A q) 1 0) xs = omega arith in
      rw (none, e) (none_passes A xs)
])

pub same_sum : (g h : ℕ → ℕ) (a n : ℕ) → ((k : ℕ) → a ≤ k → k < a + n → g k ≡ h k) → sum_by g (range_with_len a n) ≡ sum_by h (range_with_len a n)
same_sum g h a zero same = refl
same_sum g h a (suc n) same =
    rw (sum_by-cons g a (range_with_len (a + 1) n), sum_by-cons h a (range_with_len (a + 1) n), same a (omega arith) (omega arith), same_sum g h (a + 1) n (λ k low high. same k (omega arith) (omega arith))) refl

-- two sums that differ at one place alone
pub one_changed : (f g : ℕ → ℕ) (k a n : ℕ) → ((q : ℕ) → q ≢ k → f q ≡ g q) → a ≤ k → k < a + n → sum_by f (range_with_len a n) + g k ≡ sum_by g (range_with_len a n) + f k
one_changed f g k a zero same low high = absurd (omega arith)
one_changed f g k a (suc n) same low high =
    let first = sum_by-cons f a (range_with_len (a + 1) n) in
    let second = sum_by-cons g a (range_with_len (a + 1) n) in
    elim (cases_eq a k) [
      | inl here ↦
          let rest = same_sum f g (a + 1) n (λ q from below. same q (λ e. omega arith)) in
          let of_f : f a ≡ f k = ap f here in
          let of_g : g a ≡ g k = ap g here in
          omega (arith, first, second, rest, of_f, of_g)
      | inr other ↦
          let rest = one_changed f g k (a + 1) n same (omega arith) (omega arith) in
          let at = same a other in
          omega (arith, first, second, rest, at)
    ]

sum_none : (a n : ℕ) → sum_by (λ q. 0) (range_with_len a n) ≡ 0
sum_none a zero = refl
sum_none a (suc n) = omega (arith, sum_by-cons (λ (q : ℕ). 0) a (range_with_len (a + 1) n), sum_none (a + 1) n)

-- a sum over one place
sum_one : (f : ℕ → ℕ) (k n : ℕ) → ((q : ℕ) → q ≢ k → f q ≡ 0) → k < n → sum_by f (range_with_len 0 n) ≡ f k
sum_one f k n same lt = omega (arith, one_changed f (λ q. 0) k 0 n same (omega arith) (omega (arith, lt)), sum_none 0 n)

-- lanes counted in one lane alone
count_at : (p : ℕ → Bool) (j n : ℕ) → n ≡ 512 → j < 512 → ((i : ℕ) → i ≢ j → p i ≡ false) → count_lanes p ≡ one (p j)
count_at p j n e lt none = count_lanes_is p n e ∙ sum_one (λ i. one (p i)) j n (λ i other. ap one (none i other)) (omega (arith, lt, e))

only : (x : Bool) (i j : ℕ) → i ≢ j → (x && eqb i j) ≡ false
only true i j other = ne_eqb i j other
only false i j other = refl

here : (x : Bool) (j : ℕ) → (x && eqb j j) ≡ x
here true j = eq-eqb j j refl
here false j = refl

pub one_lane : (row : List ℕ) (j : ℕ) → j < 512 → count_lanes (λ i. lane row i && eqb i j) ≡ one (lane row j)
one_lane row j lt = count_at (λ i. lane row i && eqb i j) j 512 refl lt (λ i other. only (lane row i) i j other) ∙ ap one (here (lane row j) j)

only_both : (x y : Bool) (i j : ℕ) → i ≢ j → ((x && eqb i j) && y) ≡ false
only_both x y i j other = ap (λ (b : Bool). b && y) (only x i j other)

pub one_lane_both : (x y : ℕ → Bool) (j : ℕ) → j < 512 → count_lanes (λ i. (x i && eqb i j) && y i) ≡ one (x j && y j)
one_lane_both x y j lt = count_at (λ i. (x i && eqb i j) && y i) j 512 refl lt (λ i other. only_both (x i) (y i) i j other) ∙ ap (λ (b : Bool). one (b && y j)) (here (x j) j)

-- what is told moves the number down at Failing and up at Passing bits
told_at : (failing passing fails : Bool) → bad failing passing fails + one (fails && failing) ≡ bad failing passing false + one (fails && passing)
told_at true true true = refl
told_at true false true = refl
told_at false true true = refl
told_at false false true = refl
told_at true true false = refl
told_at true false false = refl
told_at false true false = refl
told_at false false false = refl

pub told : (F P c : ℕ → Bool) (a n : ℕ) → sum_by (λ q. bad (F q) (P q) (c q)) (range_with_len a n) + sum_by (λ q. one (c q && F q)) (range_with_len a n)
    ≡ sum_by (λ q. bad (F q) (P q) false) (range_with_len a n) + sum_by (λ q. one (c q && P q)) (range_with_len a n)
told F P c a zero = refl
told F P c a (suc n) =
    let rest = told F P c (a + 1) n in
    let at = told_at (F a) (P a) (c a) in
    omega (
      arith,
      rest,
      at,
      sum_by-cons (λ (q : ℕ). bad (F q) (P q) (c q)) a (range_with_len (a + 1) n),
      sum_by-cons (λ (q : ℕ). one (c q && F q)) a (range_with_len (a + 1) n),
      sum_by-cons (λ (q : ℕ). bad (F q) (P q) false) a (range_with_len (a + 1) n),
      sum_by-cons (λ (q : ℕ). one (c q && P q)) a (range_with_len (a + 1) n),
    )

pub one_most : (b : Bool) → one b ≤ 1
one_most true = omega arith
one_most false = omega arith

-- no more than there are places
pub few_places : (p : ℕ → Bool) (n : ℕ) → sum_by (λ q. one (p q)) (range_with_len 0 n) ≤ n
few_places p n = omega (arith, sum_by-le (λ q. one (p q)) 1 (range_with_len 0 n) (λ k d lt. one_most (p _)), length-range_with_len 0 n)

-- what is told of Failing bits is no more than these
told_failing : (failing passing fails : Bool) → one (fails && failing) ≤ bad failing passing false
told_failing true true true = omega arith
told_failing true false true = omega arith
told_failing false true true = omega arith
told_failing false false true = omega arith
told_failing failing passing false = omega arith

pub told_less : (F P c : ℕ → Bool) (a n : ℕ) → sum_by (λ q. one (c q && F q)) (range_with_len a n) ≤ sum_by (λ q. bad (F q) (P q) false) (range_with_len a n)
told_less F P c a zero = omega arith
told_less F P c a (suc n) =
    omega (arith, told_less F P c (a + 1) n, told_failing (F a) (P a) (c a), sum_by-cons (λ (q : ℕ). one (c q && F q)) a (range_with_len (a + 1) n), sum_by-cons (λ (q : ℕ). bad (F q) (P q) false) a (range_with_len (a + 1) n))

-- one place of a sum
pub one_less : (f : ℕ → ℕ) (k a n : ℕ) → a ≤ k → k < a + n → f k ≤ sum_by f (range_with_len a n)
one_less f k a zero low high = absurd (omega arith)
one_less f k a (suc n) low high =
    let first = sum_by-cons f a (range_with_len (a + 1) n) in
    elim (cases_eq a k) [
      | inl here ↦ let at : f a ≡ f k = ap f here in omega (arith, first, at)
      | inr other ↦ omega (arith, first, one_less f k (a + 1) n (omega arith) (omega arith))
    ]

-- one number more
pub one_more : (f : ℕ → ℕ) (n : ℕ) → sum_by f (range_with_len 0 (n + 1)) ≡ sum_by f (range_with_len 0 n) + f n
one_more f n = ap (sum_by f) (range_more n) ∙ sum_by-append f (range_with_len 0 n) (n ∷ []) ∙ ap (λ (k : ℕ). sum_by f (range_with_len 0 n) + k) (sum_by-cons f n [] ∙ omega arith)

-- where nothing is told, the Failing bits alone are against
pub none_told : (failing passing : Bool) → one failing ≡ bad failing passing false
none_told true true = refl
none_told true false = refl
none_told false true = refl
none_told false false = refl
