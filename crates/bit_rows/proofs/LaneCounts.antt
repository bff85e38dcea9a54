-- How many lanes a row has, word by word.
use Rattle.std.proofs.Common.{◌≡◌, ℕ, zero, suc, ◌+◌, ◌*◌, ◌/◌, ◌%◌, ◌^◌, ◌<◌, ◌≤◌, Bool, false, cond, eqb, List, ◌∷◌, map, get_or, refl, sym, ap, ◌∙◌, arith, add-zero}
use Rattle.std.specs.Prelude.{count_by, count_ones}
use Rattle.std.specs.List.{range_with_len}
use Rattle.std.specs.Int.{bit_at}
use Rattle.std.proofs.lemmas.List.Sums.{count_by-le-length, sum_by-cons}
use Rattle.std.proofs.lemmas.List.FromFn.{length-range_with_len, get_or-map-range_with_len}
use Rattle.std.proofs.lemmas.Simd.{mask_l-lt, bit_mask_l, ones-mask_l}
use Rattle.std.proofs.lemmas.Nat.Bits.{bit_at-lt, same_from_bits_below}
use Rattle.bit_rows.specs.Lanes.{lane, count_lanes}
use lib.Lanes.{mask_l}

count_cons : (p : ℕ → Bool) (x : ℕ) (xs : List ℕ) → count_by p (x ∷ xs) ≡ cond (p x) 1 0 + count_by p xs
count_cons p x xs = sum_by-cons (λ y. cond (p y) 1 0) x xs

-- tests that agree, each on its own range
pub same_count : (p q : ℕ → Bool) (a b n : ℕ) → ((i : ℕ) → i < n → p (a + i) ≡ q (b + i)) → count_by p (range_with_len a n) ≡ count_by q (range_with_len b n)
same_count p q a b zero agree = refl
same_count p q a b (suc n) agree =
    let first : p a ≡ q b = rw (add-zero, add-zero) at (agree 0 (omega arith)) in
    let rest = same_count p q (a + 1) (b + 1) n (λ i lt.
    let left : a + 1 + i ≡ a + suc i = omega arith in
    let right : b + 1 + i ≡ b + suc i = omega arith in
    rw (left, right) (agree (suc i) (omega arith))) in
    count_cons p a (range_with_len (a + 1) n) ∙ ap (λ (t : Bool). cond t 1 0 + count_by p (range_with_len (a + 1) n)) first
    ∙ ap (λ (m : ℕ). cond (q b) 1 0 + m) rest ∙ sym (count_cons q b (range_with_len (b + 1) n))

count_split : (p : ℕ → Bool) (a m n t : ℕ) → t ≡ m + n → count_by p (range_with_len a t) ≡ count_by p (range_with_len a m) + count_by p (range_with_len (a + m) n)
count_split p a zero n t e = let same : t ≡ n = omega arith in rw (same, add-zero) (omega arith)
count_split p a (suc m) n zero e = absurd (omega arith)
count_split p a (suc m) n (suc t) e =
    let rest = count_split p (a + 1) m n t (omega arith) in
    let start : a + 1 + m ≡ a + suc m = omega arith in
    let there = rw start at rest in
    omega (arith, there, count_cons p a (range_with_len (a + 1) t), count_cons p a (range_with_len (a + 1) m))

one_or_zero : (b : ℕ) → b < 2 → b ≡ cond (eqb b 1) 1 0
one_or_zero zero lt = refl
one_or_zero (suc zero) lt = refl
one_or_zero (suc (suc b)) lt = absurd (omega arith)

-- a word's ones are its bits that are set
ones_are_bits : (n : ℕ) → n < 2 ^ 64 → count_ones n ≡ count_by (λ i. eqb (bit_at n i) 1) (range_with_len 0 64)
ones_are_bits n lt =
    let p = λ (i : ℕ). eqb (bit_at n i) 1 in
    let mask = mask_l (map p (range_with_len 0 64)) in
    let low : mask < 2 ^ 64 = mask_l-lt (map p (range_with_len 0 64)) in
    let same : n ≡ mask = same_from_bits_below 64 n mask lt low (λ i li.
    one_or_zero (bit_at n i) (bit_at-lt n i)
    ∙ ap (λ (b : Bool). cond b 1 0) (sym (get_or-map-range_with_len p 0 64 i i false li (omega arith)))
    ∙ sym (bit_mask_l (map p (range_with_len 0 64)) i)) in
    ap count_ones same ∙ ones-mask_l p (range_with_len 0 64)

-- one word more
pub count_more : (ws : List ℕ) (k : ℕ) → get_or ws k 0 < 2 ^ 64
    → count_by (lane ws) (range_with_len 0 (64 * (k + 1))) ≡ count_by (lane ws) (range_with_len 0 (64 * k)) + count_ones (get_or ws k 0)
count_more ws k fits =
    let here = same_count (lane ws) (λ i. eqb (bit_at (get_or ws k 0) i) 1) (0 + 64 * k) 0 64 (λ i lt.
    let quotient : (0 + 64 * k + i) / 64 ≡ k = omega arith in
    let rest : (0 + 64 * k + i) % 64 ≡ i = omega arith in
    rw (quotient, rest) (ap (λ (m : ℕ). eqb (bit_at (get_or ws k 0) m) 1) (omega arith))) in
    count_split (lane ws) 0 (64 * k) 64 (64 * (k + 1)) (omega arith)
    ∙ ap (λ (n : ℕ). count_by (lane ws) (range_with_len 0 (64 * k)) + n) (here ∙ sym (ones_are_bits (get_or ws k 0) fits))

pub count_bound : (p : ℕ → Bool) (n : ℕ) → count_by p (range_with_len 0 n) ≤ n
count_bound p n = omega (arith, count_by-le-length p (range_with_len 0 n), length-range_with_len 0 n)

pub count_lanes_is : (p : ℕ → Bool) (n : ℕ) → n ≡ 512 → count_lanes p ≡ count_by p (range_with_len 0 n)
unfolding count_lanes
count_lanes_is p n e = ap (λ m. count_by p (range_with_len 0 m)) (sym e)

-- tests that agree on each lane
pub same_lanes : (p q : ℕ → Bool) → ((j : ℕ) → j < 512 → p j ≡ q j) → count_lanes p ≡ count_lanes q
unfolding count_lanes
same_lanes p q agree = same_count p q 0 0 512 (λ i lt. agree (0 + i) (omega arith))
