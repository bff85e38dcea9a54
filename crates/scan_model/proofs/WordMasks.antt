-- Masks of patterns.
use Rattle.std.proofs.Common.{◌≡◌, ℕ, ◌+◌, ◌-◌, ◌*◌, ◌/◌, ◌%◌, ◌^◌, ◌<◌, min, Bool, true, not, ◌&&◌, ◌||◌, eqb, ltb, leb, refl, sym, ap, ◌∙◌, inl, inr, arith, w64}
use Rattle.std.specs.Prelude.{bit_and}
use Rattle.std.specs.Int.{bit_at, bit_not}
use Rattle.std.proofs.Math.Bool.{and_comm}
use Rattle.std.proofs.lemmas.Bool.{cases_eq, cases_lt, eq-eqb, ne_eqb, lt-ltb, le-ltb, le-leb, lt-leb}
use Rattle.std.proofs.lemmas.Nat.{one_shl}
use Rattle.std.proofs.lemmas.Nat.Bits.{bit_at_ones, bit_at_ones_above}
use Rattle.scan_model.proofs.BitTables.{bit_of_and, bit_of_not}

pub all_ones : (count j : ℕ) → count ≡ 64 → j < 64 → eqb (bit_at (2 ^ 64 - 1) j) 1 ≡ ltb j count
all_ones count j is lt = ap (λ (n : ℕ). eqb n 1) (bit_at_ones 64 j lt) ∙ sym (lt-ltb j count (omega arith))

pub low_ones : (count j : ℕ) → count < 64 → eqb (bit_at (1 * 2 ^ count % 2 ^ 64 - 1) j) 1 ≡ ltb j count
low_ones count j few =
    ap (λ (n : ℕ). eqb (bit_at (n - 1) j) 1) (one_shl count 64 few) ∙ elim (cases_lt j count) [
      | inl lt ↦ ap (λ (n : ℕ). eqb n 1) (bit_at_ones count j lt) ∙ sym (lt-ltb j count lt)
      | inr ge ↦ ap (λ (n : ℕ). eqb n 1) (bit_at_ones_above count j ge) ∙ sym (le-ltb j count ge)
    ]

-- a place within a word, and the pattern there
pub below_in_word : (base j n : ℕ) → j < 64 → ltb j (min (n - base) 64) ≡ ltb (base + j) n
below_in_word base j n lt = elim (cases_lt (base + j) n) [
  | inl below ↦ lt-ltb j (min (n - base) 64) (omega arith) ∙ sym (lt-ltb (base + j) n below)
  | inr from ↦ le-ltb j (min (n - base) 64) (omega arith) ∙ sym (le-ltb (base + j) n from)
]

not_below : (m n : ℕ) → not (ltb m n) ≡ leb n m
not_below m n = elim (cases_lt m n) [
  | inl below ↦ ap not (lt-ltb m n below) ∙ sym (lt-leb n m below)
  | inr from ↦ ap not (le-ltb m n from) ∙ sym (le-leb n m from)
]

pub mask_between : (base first end below_end below_first j : ℕ) → j < 64 → below_first < 2 ^ 64
    → eqb (bit_at below_end j) 1 ≡ ltb j (min (end - base) 64) → eqb (bit_at below_first j) 1 ≡ ltb j (min (first - base) 64)
    → eqb (bit_at (bit_and below_end (bit_not w64 below_first)) j) 1 ≡ (leb first (base + j) && ltb (base + j) end)
mask_between base first end below_end below_first j lt fits ends firsts =
    bit_of_and below_end (bit_not w64 below_first) j
    ∙ ap (λ (b : Bool). b && eqb (bit_at (bit_not w64 below_first) j) 1) (ends ∙ below_in_word base j end lt)
    ∙ ap (λ (b : Bool). ltb (base + j) end && b) (bit_of_not below_first j fits lt ∙ ap not (firsts ∙ below_in_word base j first lt) ∙ not_below (base + j) first)
    ∙ and_comm (ltb (base + j) end) (leb first (base + j))

-- one more word of a range of patterns
pub word_marked : (first last word w : ℕ) (new mask so_far old : Bool) → new ≡ (((eqb (w / 64) word && true) && mask) || so_far) → mask ≡ (leb first (64 * word + w % 64) && ltb (64 * word + w % 64) (last + 1))
    → so_far ≡ ((ltb (w / 64) word && (leb first w && leb w last)) || old) → new ≡ ((ltb (w / 64) (word + 1) && (leb first w && leb w last)) || old)
word_marked first last word w new mask so_far old is masks so_far_is = elim (cases_eq (w / 64) word) [
  | inl here ↦
      let at : 64 * word + w % 64 ≡ w = omega arith in
      let up_to : ltb w (last + 1) ≡ leb w last = elim (cases_lt last w) [
        | inl lt ↦ le-ltb w (last + 1) (omega arith) ∙ sym (lt-leb w last lt)
        | inr le ↦ lt-ltb w (last + 1) (omega arith) ∙ sym (le-leb w last le)
      ] in
      is ∙ rw (so_far_is, masks, at, up_to, eq-eqb (w / 64) word here, le-ltb (w / 64) word (omega arith), lt-ltb (w / 64) (word + 1) (omega arith)) refl
  | inr other ↦ elim (cases_lt (w / 64) word) [
    | inl before ↦ is ∙ rw (so_far_is, ne_eqb (w / 64) word other, lt-ltb (w / 64) word before, lt-ltb (w / 64) (word + 1) (omega arith)) refl
    | inr after ↦ is ∙ rw (so_far_is, ne_eqb (w / 64) word other, le-ltb (w / 64) word after, le-ltb (w / 64) (word + 1) (omega arith)) refl
  ]
]
