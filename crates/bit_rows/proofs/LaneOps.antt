-- Rows combined lane by lane.
use Rattle.std.proofs.Common.{◌≡◌, w64, ℕ, zero, suc, ◌+◌, ◌*◌, ◌/◌, ◌%◌, ◌-◌, ◌^◌, ◌<◌, min, max, Bool, true, false, cond, eqb, ◌&&◌, ◌||◌, List, [], ◌∷◌, length, get_or, refl, sym, ap, ◌∙◌, inl, inr, arith}
use Rattle.std.specs.Prelude.{bit_and, bit_or, bit_xor, replicate}
use Rattle.std.specs.Int.{bit_at, bit_not}
use Rattle.std.specs.Int.Bits.{or_zero_r}
use Rattle.std.proofs.Math.Nat.{zero-mul}
use mir.Val.{bool_byte}
use Rattle.std.proofs.lemmas.Bool.{cases_eq, eq-eqb, ne_eqb}
use Rattle.std.proofs.lemmas.List.{take_all}
use Rattle.std.proofs.lemmas.Simd.{get_or-zip2, get_or-replicate, Each1-from_get_or}
use Rattle.std.proofs.lemmas.Nat.Bits.{bit_at-lt, bit_at-zero, bit_at_and, bit_at_or, bit_at_xor, bit_at_ones, bit_at_set_same, bit_at_set_other, bit_at_clear_same, bit_at_clear_other, same_from_bits, same_from_bits_below}
use Rattle.bit_rows.specs.Lanes.{lane, differ}
use lib.Lanes.{zip2, fold_l, Each1, chunk}

test_min : (a b : ℕ) → a < 2 → b < 2 → eqb (min a b) 1 ≡ (eqb a 1 && eqb b 1)
test_min zero zero lt lu = refl
test_min zero (suc zero) lt lu = refl
test_min (suc zero) zero lt lu = refl
test_min (suc zero) (suc zero) lt lu = refl
test_min a (suc (suc b)) lt lu = absurd (omega arith)
test_min (suc (suc a)) b lt lu = absurd (omega arith)

test_max : (a b : ℕ) → a < 2 → b < 2 → eqb (max a b) 1 ≡ (eqb a 1 || eqb b 1)
test_max zero zero lt lu = refl
test_max zero (suc zero) lt lu = refl
test_max (suc zero) zero lt lu = refl
test_max (suc zero) (suc zero) lt lu = refl
test_max a (suc (suc b)) lt lu = absurd (omega arith)
test_max (suc (suc a)) b lt lu = absurd (omega arith)

test_sum : (a b : ℕ) → a < 2 → b < 2 → eqb ((a + b) % 2) 1 ≡ differ (eqb a 1) (eqb b 1)
test_sum zero zero lt lu = refl
test_sum zero (suc zero) lt lu = refl
test_sum (suc zero) zero lt lu = refl
test_sum (suc zero) (suc zero) lt lu = refl
test_sum a (suc (suc b)) lt lu = absurd (omega arith)
test_sum (suc (suc a)) b lt lu = absurd (omega arith)

module _ (xs ys : List ℕ) (j : ℕ) (left : length xs ≡ 8) (right : length ys ≡ 8) (lt : j < 512) where
  word_of : (f : ℕ → ℕ → ℕ) → get_or (zip2 f xs ys) (j / 64) 0 ≡ f (get_or xs (j / 64) 0) (get_or ys (j / 64) 0)
  word_of f = get_or-zip2 f xs ys (j / 64) 0 0 0 (omega (arith, left)) (omega (arith, right))

  -- an operation on words that is one on bits is one on lanes
  lane_of : (f : ℕ → ℕ → ℕ) (g : ℕ → ℕ → ℕ) (h : Bool → Bool → Bool) → ((a b i : ℕ) → bit_at (f a b) i ≡ g (bit_at a i) (bit_at b i))
      → ((a b : ℕ) → a < 2 → b < 2 → eqb (g a b) 1 ≡ h (eqb a 1) (eqb b 1)) → lane (zip2 f xs ys) j ≡ h (lane xs j) (lane ys j)
  lane_of f g h at test =
      let x = get_or xs (j / 64) 0 in
      let y = get_or ys (j / 64) 0 in
      ap (λ (n : ℕ). eqb (bit_at n (j % 64)) 1) (word_of f)
      ∙ ap (λ (n : ℕ). eqb n 1) (at x y (j % 64))
      ∙ test (bit_at x (j % 64)) (bit_at y (j % 64)) (bit_at-lt x (j % 64)) (bit_at-lt y (j % 64))

  pub lane-and : lane (zip2 bit_and xs ys) j ≡ (lane xs j && lane ys j)
  lane-and = lane_of bit_and min (λ a b. a && b) bit_at_and test_min

  pub lane-or : lane (zip2 bit_or xs ys) j ≡ (lane xs j || lane ys j)
  lane-or = lane_of bit_or max (λ a b. a || b) bit_at_or test_max

  pub lane-xor : lane (zip2 bit_xor xs ys) j ≡ differ (lane xs j) (lane ys j)
  lane-xor = lane_of bit_xor (λ a b. (a + b) % 2) differ bit_at_xor test_sum

pub lane-all : (j : ℕ) → j < 512 → lane (replicate 8 18446744073709551615) j ≡ true
lane-all j lt = ap (λ (n : ℕ). eqb (bit_at n (j % 64)) 1) (get_or-replicate 8 (j / 64) 18446744073709551615 0 (omega arith)) ∙ ap (λ (n : ℕ). eqb n 1) (bit_at_ones 64 (j % 64) (omega arith))

-- one bit of a word set or cleared
pub bit-put : (n at i : ℕ) (is_set : Bool) → at < 64 → i < 64
    → eqb (bit_at (bit_or (bit_and n (bit_not w64 (1 * 2 ^ at % 18446744073709551616))) (bool_byte is_set * 2 ^ at % 18446744073709551616)) i) 1 ≡ cond (eqb i at) is_set (eqb (bit_at n i) 1)
bit-put n at i true la li =
    let cleared = bit_and n (bit_not w64 (1 * 2 ^ at % 18446744073709551616)) in
    elim (cases_eq i at) [
      | inl same ↦ rw (same, eq-eqb at at refl) (ap (λ (b : ℕ). eqb b 1) (bit_at_set_same w64 cleared at la))
      | inr other ↦ rw (ne_eqb i at other) (ap (λ (b : ℕ). eqb b 1) (bit_at_set_other w64 cleared at la i other ∙ bit_at_clear_other w64 n at la i li other))
    ]
bit-put n at i false la li =
    let cleared = bit_and n (bit_not w64 (1 * 2 ^ at % 18446744073709551616)) in
    ap (λ (m : ℕ). eqb (bit_at (bit_or cleared (m % 18446744073709551616)) i) 1) (zero-mul (2 ^ at)) ∙ ap (λ (m : ℕ). eqb (bit_at m i) 1) (or_zero_r cleared) ∙ elim (cases_eq i at) [
      | inl same ↦ rw (same, eq-eqb at at refl) (ap (λ (b : ℕ). eqb b 1) (bit_at_clear_same w64 n at la))
      | inr other ↦ rw (ne_eqb i at other) (ap (λ (b : ℕ). eqb b 1) (bit_at_clear_other w64 n at la i li other))
    ]

-- ---- rows with no lane
pub not_one : (b : ℕ) → b < 2 → eqb b 1 ≡ false → b ≡ 0
not_one zero lt e = refl
not_one (suc zero) lt e = absurd cc
not_one (suc (suc b)) lt e = absurd (omega arith)

zero_left : (a b : ℕ) → bit_or a b ≡ 0 → a ≡ 0
zero_left a b e = same_from_bits a 0 (λ i. omega (arith, bit_at_or a b i, ap (λ n. bit_at n i) e, bit_at-zero i))

zero_right : (a b : ℕ) → bit_or a b ≡ 0 → b ≡ 0
zero_right a b e = same_from_bits b 0 (λ i. omega (arith, bit_at_or a b i, ap (λ n. bit_at n i) e, bit_at-zero i))

start_zero : (ws : List ℕ) (a : ℕ) → fold_l bit_or a ws ≡ 0 → a ≡ 0
start_zero [] a e = e
start_zero (w ∷ ws) a e = zero_left a w (start_zero ws (bit_or a w) e)

word_zero : (ws : List ℕ) (a k : ℕ) → fold_l bit_or a ws ≡ 0 → get_or ws k 0 ≡ 0
word_zero [] a k e = refl
word_zero (w ∷ ws) a zero e = zero_right a w (start_zero ws (bit_or a w) e)
word_zero (w ∷ ws) a (suc k) e = word_zero ws (bit_or a w) k e

-- the words have no bit, so no lane is set
pub no_lane : (ws : List ℕ) (j : ℕ) → fold_l bit_or 0 ws ≡ 0 → lane ws j ≡ false
no_lane ws j e = ap (λ (n : ℕ). eqb (bit_at n (j % 64)) 1) (word_zero ws 0 (j / 64) e) ∙ ap (λ (n : ℕ). eqb n 1) (bit_at-zero (j % 64))

zeros_fold : (ws : List ℕ) → Each1 (λ w. w ≡ 0) ws → fold_l bit_or 0 ws ≡ 0
zeros_fold [] all = refl
zeros_fold (w ∷ ws) all = ap (λ n. fold_l bit_or (bit_or 0 n) ws) all.0 ∙ zeros_fold ws all.1

-- no lane is set, so the words have no bit
pub no_bits : (ws : List ℕ) → length ws ≡ 8 → ((k : ℕ) → k < 8 → get_or ws k 0 < 2 ^ 64) → ((j : ℕ) → j < 512 → lane ws j ≡ false) → fold_l bit_or 0 ws ≡ 0
no_bits ws len fits all = zeros_fold ws (Each1-from_get_or (λ w. w ≡ 0) ws 0 (λ k lt.
    same_from_bits_below 64 (get_or ws k 0) 0 (fits k (omega arith)) (omega arith) (λ i li.
    let quotient : (64 * k + i) / 64 ≡ k = omega arith in
    let rest : (64 * k + i) % 64 ≡ i = omega arith in
    not_one (bit_at (get_or ws k 0) i) (bit_at-lt (get_or ws k 0) i) (rw (quotient, rest) at (all (64 * k + i) (omega arith))) ∙ sym (bit_at-zero i))))

pub whole_chunk : (ws : List ℕ) (n : ℕ) → length ws ≡ n → chunk 0 n ws ≡ ws
whole_chunk ws n e = take_all n ws (omega arith)

-- a word's bits are its lanes
pub word_lane : (ws : List ℕ) (k i : ℕ) → i < 64 → eqb (bit_at (get_or ws k 0) i) 1 ≡ lane ws (64 * k + i)
word_lane ws k i lt =
    let quotient : (64 * k + i) / 64 ≡ k = omega arith in
    let rest : (64 * k + i) % 64 ≡ i = omega arith in
    rw (quotient, rest) refl
