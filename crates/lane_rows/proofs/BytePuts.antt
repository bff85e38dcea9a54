-- Bits and bytes that are set where there was none.
use Rattle.std.proofs.Common.{◌≡◌, ◌≢◌, w8, ℕ, ◌+◌, ◌*◌, ◌/◌, ◌%◌, ◌-◌, ◌^◌, ◌<◌, ◌≤◌, Bool, true, false, cond, eqb, refl, ap, ◌∙◌, inl, inr, arith}
use Rattle.std.specs.Prelude.{bit_or}
use Rattle.std.specs.Int.{bit_at}
use Rattle.std.specs.Int.Bits.{or_zero_r}
use Rattle.std.proofs.Math.Nat.{zero-mul}
use mir.Val.{bool_byte}
use Rattle.std.proofs.lemmas.Bool.{cases_eq, cases_lt, eq-eqb, ne_eqb}
use Rattle.std.proofs.lemmas.Nat.{pow_pos, shl_whole}
use Rattle.std.proofs.lemmas.Nat.Bits.{bit_at-lt, bit_at-zero, bit_at_or, bit_at_above, bit_at_cat_low, bit_at_cat_high, bit_at_set_same, bit_at_set_other}
use Rattle.value_rows.proofs.LaneOps.{not_one}

-- one bit of a byte, which was clear, set or not
pub byte_bit-put : (n at i : ℕ) (is_set : Bool) → at < 8 → eqb (bit_at n at) 1 ≡ false
    → eqb (bit_at (bit_or n (bool_byte is_set * 2 ^ at % 256)) i) 1 ≡ cond (eqb i at) is_set (eqb (bit_at n i) 1)
byte_bit-put n at i true la blank = elim (cases_eq i at) [
  | inl same ↦ rw (same, eq-eqb at at refl) (ap (λ (b : ℕ). eqb b 1) (bit_at_set_same w8 n at la))
  | inr other ↦ rw (ne_eqb i at other) (ap (λ (b : ℕ). eqb b 1) (bit_at_set_other w8 n at la i other))
]
byte_bit-put n at i false la blank =
    ap (λ (m : ℕ). eqb (bit_at (bit_or n (m % 256)) i) 1) (zero-mul (2 ^ at)) ∙ ap (λ (m : ℕ). eqb (bit_at m i) 1) (or_zero_r n) ∙ elim (cases_eq i at) [
      | inl same ↦ rw (same, eq-eqb at at refl) blank
      | inr other ↦ rw (ne_eqb i at other) refl
    ]

-- ---- a byte of a word written
module _ (q at i : ℕ) (la : at < 8) (fits : q < 2 ^ 8) where
  shifted_plus : q * 2 ^ (8 * at) % 18446744073709551616 ≡ q * 2 ^ (8 * at) + 0
  shifted_plus = shl_whole q 8 (8 * at) 64 fits (omega (arith, la)) ∙ omega arith

  shifted_high : 8 * at ≤ i → bit_at (q * 2 ^ (8 * at) % 18446744073709551616) i ≡ bit_at q (i - 8 * at)
  shifted_high le = ap (λ (m : ℕ). bit_at m i) shifted_plus ∙ bit_at_cat_high q (8 * at) 0 i (pow_pos (8 * at)) le

  shifted_inside : i / 8 ≡ at → bit_at (q * 2 ^ (8 * at) % 18446744073709551616) i ≡ bit_at q (i % 8)
  shifted_inside same = shifted_high (omega (arith, same)) ∙ ap (bit_at q) (omega (arith, same))

  shifted_outside : i / 8 ≢ at → bit_at (q * 2 ^ (8 * at) % 18446744073709551616) i ≡ 0
  shifted_outside other = elim (cases_lt i (8 * at)) [
    | inl below ↦ ap (λ (m : ℕ). bit_at m i) shifted_plus ∙ bit_at_cat_low q (8 * at) 0 i below ∙ bit_at-zero i
    | inr above ↦ shifted_high above ∙ bit_at_above q 8 (i - 8 * at) fits (omega (arith, above, other))
  ]

-- a byte of a word that had no bit there
pub byte-put : (n q at i : ℕ) → at < 8 → q < 2 ^ 8 → (i / 8 ≡ at → eqb (bit_at n i) 1 ≡ false)
    → eqb (bit_at (bit_or n (q * 2 ^ (8 * at) % 18446744073709551616)) i) 1 ≡ cond (eqb (i / 8) at) (eqb (bit_at q (i % 8)) 1) (eqb (bit_at n i) 1)
byte-put n q at i la fits blank =
    let put = q * 2 ^ (8 * at) % 18446744073709551616 in
    ap (λ (b : ℕ). eqb b 1) (bit_at_or n put i) ∙ elim (cases_eq (i / 8) at) [
      | inl same ↦ rw (eq-eqb (i / 8) at same)
          (ap (λ (b : ℕ). eqb b 1) (omega (arith, not_one (bit_at n i) (bit_at-lt n i) (blank same), shifted_inside q at i la fits same)))
      | inr other ↦ rw (ne_eqb (i / 8) at other) (ap (λ (b : ℕ). eqb b 1) (omega (arith, shifted_outside q at i la fits other)))
    ]
