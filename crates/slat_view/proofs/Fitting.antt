-- A fault fits a pattern where nothing is against it, as a sum; and a fault that fits explains a Failing bit.
use Rattle.std.proofs.Common.{◌≡◌, ◌≢◌, ℕ, zero, suc, ◌+◌, ◌<◌, ◌≤◌, Bool, true, false, not, cond, eqb, ◌&&◌, ◌||◌, List, [], ◌∷◌, ◌++◌, length, map, refl, sym, ap, ◌∙◌, inl, inr, arith}
use Rattle.std.specs.Prelude.{sum_by, count_by}
use Rattle.std.specs.List.{list_any, range_with_len, flat_map}
use Rattle.std.proofs.lemmas.Bool.{cases_Bool, cases_eq, eq-eqb, ne_eqb, and_parts, or_parts}
use Rattle.std.proofs.lemmas.List.Sums.{sum_by-cons, sum_by-append}
use Rattle.scan_model.specs.declared.fault.Fault.{Fault}
use Rattle.scan_model.specs.declared.logs.Bit.{Bit}
use Rattle.scan_model.specs.declared.logs.LogFacts.{LogFacts}
use Rattle.scan_model.specs.ScanTest.{ScanTest, points_of}
use Rattle.scan_model.specs.Coverage.{bit_of, bits_of}
use Rattle.scan_model.specs.Classes.{class, is_failing, is_passing}
use Rattle.scan_model.specs.Response.{predicts_fail}
use Rattle.scan_model.specs.MatchCounts.{counts_of}
use Rattle.slat_view.specs.Slat.{pattern_bits, is_failing_pattern, is_against, fits}
use Rattle.slat_view.specs.Places.{bad, put_at}

-- ---- a sum that is 0

none_against : (A : Bit → Bool) (w : ℕ) (ks : List ℕ) → not (list_any A (map (bit_of w) ks)) ≡ eqb (sum_by (λ k. cond (A (bit_of w k)) 1 0) ks) 0
none_against A w [] = refl
none_against A w (k ∷ ks) = rw (sum_by-cons (λ (q : ℕ). cond (A (bit_of w q)) 1 0) k ks) (elim (cases_Bool (A (bit_of w k))) [
  | inl is ↦ rw (is, ne_eqb (1 + sum_by (λ q. cond (A (bit_of w q)) 1 0) ks) 0 (λ e. omega arith)) refl
  | inr none ↦
      let e : 0 + sum_by (λ q. cond (A (bit_of w q)) 1 0) ks ≡ sum_by (λ q. cond (A (bit_of w q)) 1 0) ks = omega arith in
      rw (none, e) (none_against A w ks)
])

pub fits_sum : (t : ScanTest) (logs : List LogFacts) (f : Fault) (w : ℕ) → fits t logs w f
    ≡ (is_failing_pattern t logs w && eqb (sum_by (λ k. bad (is_failing (class t logs (bit_of w k))) (is_passing (class t logs (bit_of w k))) (predicts_fail t f (bit_of w k))) (range_with_len 0 (length (points_of t)))) 0)
fits_sum t logs f w = ap (λ (b : Bool). is_failing_pattern t logs w && b) (none_against (is_against t logs f) w (range_with_len 0 (length (points_of t))))

-- ---- one place more

same_sum : (g h : ℕ → ℕ) (a n : ℕ) → ((k : ℕ) → a ≤ k → k < a + n → g k ≡ h k) → sum_by g (range_with_len a n) ≡ sum_by h (range_with_len a n)
same_sum g h a zero same = refl
same_sum g h a (suc n) same =
    rw (sum_by-cons g a (range_with_len (a + 1) n), sum_by-cons h a (range_with_len (a + 1) n), same a (omega arith) (omega arith), same_sum g h (a + 1) n (λ k low high. same k (omega arith) (omega arith))) refl

moved : (failing passing : Bool) → (failing && passing) ≡ false → bad failing passing true + cond failing 1 0 ≡ bad failing passing false + cond passing 1 0
moved true true e = absurd cc
moved true false e = refl
moved false true e = refl
moved false false e = refl

module _ (F P c : ℕ → Bool) (k : ℕ) (fresh : c k ≡ false) (apart : (F k && P k) ≡ false) where
  was : ℕ → ℕ
  was q = bad (F q) (P q) (c q)

  is : ℕ → ℕ
  is q = bad (F q) (P q) (put_at c k q)

  elsewhere : (q : ℕ) → q ≢ k → bad (F q) (P q) (put_at c k q) ≡ bad (F q) (P q) (c q)
  elsewhere q other = ap (λ (b : Bool). bad (F q) (P q) (cond b true (c q))) (ne_eqb q k other)

  here : bad (F k) (P k) (put_at c k k) + cond (F k) 1 0 ≡ bad (F k) (P k) (c k) + cond (P k) 1 0
  here = ap (λ (b : Bool). bad (F k) (P k) (cond b true (c k)) + cond (F k) 1 0) (eq-eqb k k refl) ∙ moved (F k) (P k) apart ∙ ap (λ (b : Bool). bad (F k) (P k) b + cond (P k) 1 0) (sym fresh)

  pub moves : (a n : ℕ) → a ≤ k → k < a + n → sum_by (λ q. bad (F q) (P q) (put_at c k q)) (range_with_len a n) + cond (F k) 1 0 ≡ sum_by (λ q. bad (F q) (P q) (c q)) (range_with_len a n) + cond (P k) 1 0
  moves a zero low high = absurd (omega arith)
  moves a (suc n) low high =
      let first = sum_by-cons (λ (q : ℕ). bad (F q) (P q) (put_at c k q)) a (range_with_len (a + 1) n) in
      let second = sum_by-cons (λ (q : ℕ). bad (F q) (P q) (c q)) a (range_with_len (a + 1) n) in
      elim (cases_eq a k) [
        | inl same ↦
            let rest = same_sum (λ q. bad (F q) (P q) (put_at c k q)) (λ q. bad (F q) (P q) (c q)) (a + 1) n (λ q from below. elsewhere q (λ e. omega arith)) in
            let at : bad (F a) (P a) (put_at c k a) + cond (F k) 1 0 ≡ bad (F a) (P a) (c a) + cond (P k) 1 0 = ap (λ (q : ℕ). bad (F q) (P q) (put_at c k q) + cond (F k) 1 0) same ∙ here ∙ ap (λ (q : ℕ). bad (F q) (P q) (c q) + cond (P k) 1 0) (sym same) in
            omega (arith, first, second, rest, at)
        | inr other ↦
            let rest = moves (a + 1) n (omega arith) (omega arith) in
            let at = elsewhere a other in
            omega (arith, first, second, rest, at)
      ]

-- ---- a fault that fits is a candidate

some_counted : (A B : Bit → Bool) (xs : List Bit) → list_any A xs ≡ true → list_any (λ b. A b && not (B b)) xs ≡ false → 1 ≤ count_by (λ b. A b && B b) xs
some_counted A B [] some none = absurd cc
some_counted A B (b ∷ xs) some none =
    let parts = or_parts (A b && not (B b)) (list_any (λ x. A x && not (B x)) xs) none in
    let sum = sum_by-cons (λ (x : Bit). cond (A x && B x) 1 0) b xs in
    elim (cases_Bool (A b)) [
      | inr silent ↦
          let later : list_any A xs ≡ true = rw silent at some in
          omega (arith, sum, some_counted A B xs later parts.1)
      | inl here ↦ elim (cases_Bool (B b)) [
        | inl both ↦
            let unit : ℕ = 1 in
            let counted : cond {A = ℕ} (A b && B b) 1 0 ≡ unit = rw (here, both) refl in
            omega (arith, sum, counted)
        | inr misses ↦ absurd (let bad' : (true && not false) ≡ false = rw (here, misses) at parts.0 in cc)
      ]
    ]

weaken : (A B C : Bit → Bool) (xs : List Bit) → list_any (λ b. (A b && not (B b)) || C b) xs ≡ false → list_any (λ b. A b && not (B b)) xs ≡ false
weaken A B C [] none = refl
weaken A B C (b ∷ xs) none =
    let parts = or_parts ((A b && not (B b)) || C b) (list_any (λ x. (A x && not (B x)) || C x) xs) none in
    let first = or_parts (A b && not (B b)) (C b) parts.0 in
    rw (first.0, weaken A B C xs parts.1) refl

-- a part of the bits
part_counts : (p : Bit → Bool) (g : ℕ → List Bit) (w a n : ℕ) → a ≤ w → w < a + n → count_by p (g w) ≤ count_by p (flat_map g (range_with_len a n))
part_counts p g w a zero low high = absurd (omega arith)
part_counts p g w a (suc n) low high =
    let sum = sum_by-append (λ (x : Bit). cond (p x) 1 0) (g a) (flat_map g (range_with_len (a + 1) n)) in
    elim (cases_eq a w) [
      | inl same ↦
          let e : count_by p (g a) ≡ count_by p (g w) = ap (λ (k : ℕ). count_by p (g k)) same in
          omega (arith, sum, e)
      | inr other ↦ omega (arith, sum, part_counts p g w (a + 1) n (omega arith) (omega arith))
    ]

not_true : (b : Bool) → not b ≡ true → b ≡ false
not_true true e = absurd cc
not_true false e = refl

pub fits_counts : (t : ScanTest) (logs : List LogFacts) (f : Fault) (w : ℕ) → w < length t.patterns → fits t logs w f ≡ true → 1 ≤ (counts_of t logs f).tfsf
fits_counts t logs f w lt is =
    let both = and_parts (is_failing_pattern t logs w) (not (list_any (is_against t logs f) (pattern_bits t w))) is in
    let none = not_true (list_any (is_against t logs f) (pattern_bits t w)) both.1 in
    let here = some_counted (λ b. is_failing (class t logs b)) (predicts_fail t f) (pattern_bits t w) both.0 (weaken (λ b. is_failing (class t logs b)) (predicts_fail t f) (λ b. is_passing (class t logs b) && predicts_fail t f b) (pattern_bits t w) none) in
    omega (arith, here, part_counts (λ b. is_failing (class t logs b) && predicts_fail t f b) (pattern_bits t) w 0 (length t.patterns) (omega arith) (omega arith))
