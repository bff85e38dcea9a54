-- Bits in bit order, by their numbers.
use Rattle.std.proofs.Common.{◌≡◌, ℕ, zero, suc, ◌+◌, ◌*◌, ◌<◌, ◌≤◌, Bool, true, false, eqb, List, [], ◌∷◌, ◌++◌, length, map, get_or, refl, sym, ap, ◌∙◌, inl, inr, arith}
use Rattle.std.specs.Prelude.{flat_map, filter, All, AllPairs, Contains}
use Rattle.std.specs.List.{range_with_len}
use Rattle.std.proofs.Math.Nat.{add-mul}
use Rattle.std.proofs.lemmas.Bool.{cases_Bool, both_ways, eqb-true, eq-eqb}
use Rattle.std.proofs.lemmas.Nat.{div-mul-add, mod-mul-add}
use Rattle.std.proofs.lemmas.List.{map-append}
use Rattle.std.proofs.lemmas.List.Elements.{filter-append, All-head, All-tail, All-contains, All-from_get_or, Contains-get_or}
use Rattle.std.proofs.lemmas.List.Folds.{Any-from_list_any, list_any_at}
use Rattle.std.proofs.lemmas.List.Kept.{AllPairs-from_increasing}
use Rattle.scan_model.specs.Coverage.{bit_of}
use Rattle.fail_logs.specs.BitNumbers.{bit_numbered}
use Rattle.fail_logs.specs.RisingNumbers.{IsRisingOf}
use Rattle.fail_logs.proofs.RisingLists.{Rising, Below, has_number, rising_is_filter}

-- a range in two parts
pub range_split : (a n m t : ℕ) → n + m ≡ t → range_with_len a t ≡ range_with_len a n ++ range_with_len (a + n) m
range_split a zero m t e =
    let whole : t ≡ m = omega arith in
    let start : a + 0 ≡ a = omega arith in
    rw (whole, start) refl
range_split a (suc n) m zero e = absurd (omega arith)
range_split a (suc n) m (suc t) e =
    let start : (a + 1) + n ≡ a + suc n = omega arith in
    ap (λ xs. a ∷ xs) (range_split (a + 1) n m t (omega arith) ∙ ap (λ b. range_with_len (a + 1) n ++ range_with_len b m) start)

-- the bits of a pattern, from a point on
block : (P : ℕ → Bool) (n a c r : ℕ) → c + r ≤ n → map (bit_numbered n) (filter P (range_with_len (a * n + c) r)) ≡ map (bit_of a) (filter (λ k. P (a * n + k)) (range_with_len c r))
block P n a c zero le = refl
block P n a c (suc r) le = go (P (a * n + c)) refl (let s : a * n + (c + 1) ≡ (a * n + c) + 1 = omega arith in rw s at (block P n a (c + 1) r (omega arith)))
  where
    go : (b : Bool) → P (a * n + c) ≡ b → map (bit_numbered n) (filter P (range_with_len ((a * n + c) + 1) r)) ≡ map (bit_of a) (filter (λ k. P (a * n + k)) (range_with_len (c + 1) r))
        → map (bit_numbered n) (filter P (range_with_len (a * n + c) (suc r))) ≡ map (bit_of a) (filter (λ k. P (a * n + k)) (range_with_len c (suc r)))
    go true e later = rw (e, div-mul-add a n c (omega arith), mod-mul-add a n c (omega arith)) (ap (λ bits. bit_of a c ∷ bits) later)
    go false e later = rw e later

-- pattern after pattern
pub blocks : (P : ℕ → Bool) (n a m : ℕ) → map (bit_numbered n) (filter P (range_with_len (a * n) (m * n))) ≡ flat_map (λ p. map (bit_of p) (filter (λ k. P (p * n + k)) (range_with_len 0 n))) (range_with_len a m)
blocks P n a zero = let none : 0 * n ≡ 0 = omega arith in rw none refl
blocks P n a (suc m) =
    let parts : range_with_len (a * n) (suc m * n) ≡ range_with_len (a * n) n ++ range_with_len (a * n + n) (m * n) = range_split (a * n) n (m * n) (suc m * n) (omega (arith, add-mul 1 m n)) in
    let next : a * n + n ≡ (a + 1) * n = omega (arith, add-mul a 1 n) in
    let start : a * n + 0 ≡ a * n = omega arith in
    let here : map (bit_numbered n) (filter P (range_with_len (a * n) n)) ≡ map (bit_of a) (filter (λ k. P (a * n + k)) (range_with_len 0 n)) = rw start at (block P n a 0 n (omega arith)) in
    ap (λ xs. map (bit_numbered n) (filter P xs)) parts
    ∙ ap (map (bit_numbered n)) (filter-append P (range_with_len (a * n) n) (range_with_len (a * n + n) (m * n)))
    ∙ map-append (bit_numbered n) (filter P (range_with_len (a * n) n)) (filter P (range_with_len (a * n + n) (m * n)))
    ∙ ap (λ bits. bits ++ map (bit_numbered n) (filter P (range_with_len (a * n + n) (m * n)))) here
    ∙ ap (λ b. map (bit_of a) (filter (λ k. P (a * n + k)) (range_with_len 0 n)) ++ map (bit_numbered n) (filter P (range_with_len b (m * n)))) next
    ∙ ap (λ bits. map (bit_of a) (filter (λ k. P (a * n + k)) (range_with_len 0 n)) ++ bits) (blocks P n (a + 1) m)

-- tests that agree in a range keep the same of it
pub filter-agree : (p q : ℕ → Bool) (a n : ℕ) → ((k : ℕ) → a ≤ k → k < a + n → p k ≡ q k) → filter p (range_with_len a n) ≡ filter q (range_with_len a n)
filter-agree p q a zero agree = refl
filter-agree p q a (suc n) agree = rw (agree a (omega arith) (omega arith), filter-agree p q (a + 1) n (λ k low high. agree k (omega arith) (omega arith))) refl

pub flat_map-agree : {X A : Type 0} (f g : X → List A) (xs : List X) → ((x : X) → f x ≡ g x) → flat_map f xs ≡ flat_map g xs
flat_map-agree f g [] agree = refl
flat_map-agree f g (x ∷ xs) agree = rw (agree x, flat_map-agree f g xs agree) refl

rising_of_pairs : (a : ℕ) (xs : List ℕ) → (0 < length xs → a ≤ get_or xs 0 0) → AllPairs (λ x y. x < y) xs → Rising a xs
rising_of_pairs a [] from pairs = tt
rising_of_pairs a (x ∷ xs) from pairs =
    (from (omega arith), rising_of_pairs (x + 1) xs (λ some. let lt : x < get_or xs 0 0 = pairs 0 1 0 (omega arith) (omega arith) in omega arith) (λ i j d lt within. pairs (suc i) (suc j) d (omega arith) (omega arith)))

below_all : (n : ℕ) (xs : List ℕ) → All (λ x. x < n) xs → Below n xs
below_all n [] all = tt
below_all n (x ∷ xs) all = (All-head (λ x. x < n) x xs all, below_all n xs (All-tail (λ x. x < n) x xs all))

-- ---- members

number_in : (xs : List ℕ) (n : ℕ) → Contains xs n → has_number xs n ≡ true
number_in xs n at = list_any_at (λ x. eqb x n) xs at.0 n at.1 (eq-eqb _ n at.2)

in_number : (xs : List ℕ) (n : ℕ) → has_number xs n ≡ true → Contains xs n
in_number xs n has = let at = Any-from_list_any (λ x. eqb x n) xs has in let same : at.1 ≡ n = eqb-true at.1 n at.4 in (at.0, at.2, index_at xs at.0 at.1 n same at.3)
  where
    index_at : (xs : List ℕ) (k x n : ℕ) → x ≡ n → get_or xs k x ≡ x → get_or xs k n ≡ n
    index_at xs k x n same e = rw same at e

same_members : (numbers rising : List ℕ) (n : ℕ) → IsRisingOf numbers rising → has_number rising n ≡ has_number numbers n
same_members numbers rising n is = elim (cases_Bool (has_number rising n)) [
  | inl has ↦ has ∙ sym (number_in numbers n (is.adds_none n (in_number rising n has)))
  | inr none ↦ elim (cases_Bool (has_number numbers n)) [
    | inl has ↦ absurd (both_ways (has_number rising n) none (number_in rising n (is.keeps n (in_number numbers n has))))
    | inr none_too ↦ none ∙ sym none_too
  ]
]

pub All-rising : (P : ℕ → Type 0) (numbers rising : List ℕ) → IsRisingOf numbers rising → All P numbers → All P rising
All-rising P numbers rising is all = All-from_get_or P rising 0 (λ k lt. All-contains P numbers (get_or rising k 0) all (is.adds_none (get_or rising k 0) (Contains-get_or rising k 0 lt)))

-- the bits with these numbers, in bit order and each once, are all bits of so many patterns and points but those whose
-- numbers are not among them
pub bits_are : (points patterns : ℕ) (numbers rising : List ℕ) → IsRisingOf numbers rising → All (λ x. x < patterns * points) numbers
    → map (bit_numbered points) rising ≡ flat_map (λ p. map (bit_of p) (filter (λ k. has_number numbers (p * points + k)) (range_with_len 0 points))) (range_with_len 0 patterns)
bits_are points patterns numbers rising is all =
    let rises : Rising 0 rising = rising_of_pairs 0 rising (λ some. omega arith) (AllPairs-from_increasing rising is.rises) in
    let start : 0 + patterns * points ≡ patterns * points = omega arith in
    let below : Below (0 + patterns * points) rising = rw start (below_all (patterns * points) rising (All-rising (λ x. x < patterns * points) numbers rising is all)) in
    let filtered : rising ≡ filter (has_number numbers) (range_with_len 0 (patterns * points)) = rising_is_filter (has_number numbers) 0 (patterns * points) rising rises below (λ k low high. sym (same_members numbers rising k is)) in
    let from : 0 * points ≡ 0 = omega arith in
    ap (map (bit_numbered points)) filtered
    ∙ ap (λ b. map (bit_numbered points) (filter (has_number numbers) (range_with_len b (patterns * points)))) (sym from)
    ∙ blocks (has_number numbers) points 0 patterns
