-- A fault's counts over the log that it predicts.
use Rattle.std.proofs.Common.{◌≡◌, ℕ, suc, ◌+◌, ◌<◌, ◌≤◌, Bool, true, false, not, ◌&&◌, ◌||◌, cond, eqb, leb, List, [], ◌∷◌, length, get_or, Some, refl, sym, ap, ◌∙◌, inl, inr, arith}
use Rattle.std.specs.Prelude.{All, filter, count_by}
use Rattle.std.specs.List.{list_any}
use Rattle.std.proofs.lemmas.Bool.{cases_Bool, eqb-true, eq-eqb}
use Rattle.std.proofs.lemmas.Bool.Decides.{nat_tests}
use Rattle.std.proofs.lemmas.List.Folds.{list_any_at, list_any_none}
use Rattle.std.proofs.lemmas.List.Sums.{length-filter, sum_by-cons}
use Rattle.scan_model.specs.declared.values.Tri.{Tri}
use Rattle.scan_model.specs.declared.values.Tri.TheVariants.{Zero, One, Unknown}
use Rattle.scan_model.specs.declared.fault.Fault.{Fault}
use Rattle.scan_model.specs.declared.logs.Bit.{Bit}
use Rattle.scan_model.specs.declared.logs.BitClass.{BitClass}
use Rattle.scan_model.specs.declared.logs.LogFacts.{LogFacts}
use Rattle.scan_model.specs.Values.{are_opposite}
use Rattle.scan_model.specs.ScanTest.{ScanTest}
use Rattle.scan_model.specs.Response.{expected, value_of_bit, predicts_fail}
use Rattle.scan_model.specs.Coverage.{same_bit, lists, covers, bits_of}
use Rattle.scan_model.specs.Classes.{class, class_by, is_failing, is_passing}
use Rattle.diag_report.specs.PredictedLog.{last_pattern, predicted_facts, ExplainsOwnLog}
use Rattle.diag_report.proofs.Bools.{left_true, right_true, or_false}
use Rattle.diag_report.proofs.BitRanges.{patterns_within}

-- ---- counts

agree_tail : {X : Type 0} (p q : X → Bool) (x : X) (xs : List X) → All (λ y. p y ≡ q y) (x ∷ xs) → All (λ y. p y ≡ q y) xs
agree_tail p q x xs all k d lt = all (suc k) d (omega arith)

-- tests that agree on the elements of a list count the same of them
count_agree : {X : Type 0} (p q : X → Bool) (xs : List X) → All (λ x. p x ≡ q x) xs → count_by p xs ≡ count_by q xs
count_agree p q [] agree = refl
count_agree p q (x ∷ xs) agree =
    sum_by-cons (λ y. cond (p y) 1 0) x xs ∙ ap (λ (b : Bool). cond b 1 0 + count_by p xs) (agree 0 x (omega arith))
    ∙ ap (λ (n : ℕ). cond (q x) 1 0 + n) (count_agree p q xs (agree_tail p q x xs agree)) ∙ sym (sum_by-cons (λ y. cond (q y) 1 0) x xs)

counted_one : {X : Type 0} (p : X → Bool) (x : X) (xs : List X) → count_by p (x ∷ xs) ≡ cond (p x) 1 0 + count_by p xs
counted_one p x xs = sum_by-cons (λ y. cond (p y) 1 0) x xs

none_counted : {X : Type 0} (xs : List X) → count_by (λ x. false) xs ≡ 0
none_counted [] = refl
none_counted {X} (x ∷ xs) = omega (arith, counted_one (λ (y : X). false) x xs, none_counted xs)

some_found : {X : Type 0} (p : X → Bool) (xs : List X) → 1 ≤ count_by p xs → list_any p xs ≡ true
some_found p [] le = absurd (omega arith)
some_found p (x ∷ xs) le = elim (cases_Bool (p x)) [
  | inl e ↦ rw e refl
  | inr e ↦ rw e (some_found p xs (omega (arith, counted_one p x xs, ap {B = ℕ} (λ (b : Bool). cond b 1 0) e)))
]

some_counted : {X : Type 0} (p : X → Bool) (xs : List X) → list_any p xs ≡ true → 1 ≤ count_by p xs
some_counted p [] found = absurd cc
some_counted p (x ∷ xs) found = elim (cases_Bool (p x)) [
  | inl e ↦ omega (arith, counted_one p x xs, ap {B = ℕ} (λ (b : Bool). cond b 1 0) e)
  | inr e ↦ omega (arith, counted_one p x xs, some_counted p xs (ap (λ (b : Bool). b || list_any p xs) (sym e) ∙ found))
]

-- ---- the bits that are listed

pub same_bit-is : (a b : Bit) → same_bit a b ≡ true → a ≡ b
same_bit-is a b e =
    let pattern : a.pattern ≡ b.pattern = eqb-true a.pattern b.pattern (left_true _ (eqb a.point b.point) e) in
    let point : a.point ≡ b.point = eqb-true a.point b.point (right_true (eqb a.pattern b.pattern) _ e) in
    λ i. record { pattern = pattern i; point = point i }

pub same_bit-self : (b : Bit) → same_bit b b ≡ true
same_bit-self b = rw (eq-eqb b.pattern b.pattern refl, eq-eqb b.point b.point refl) refl

pub any_filter : {X : Type 0} (q p : X → Bool) (xs : List X) → list_any q (filter p xs) ≡ list_any (λ x. p x && q x) xs
any_filter q p [] = refl
any_filter q p (x ∷ xs) = elim (cases_Bool (p x)) [
  | inl e ↦ rw e (ap (λ (b : Bool). q x || b) (any_filter q p xs))
  | inr e ↦ rw e (any_filter q p xs)
]

not_kept : (p : Bit → Bool) (b x : Bit) → p b ≡ false → (p x && same_bit b x) ≡ false
not_kept p b x e = elim (cases_Bool (same_bit b x)) [
  | inl same ↦ let is : b ≡ x = same_bit-is b x same in let at_x : p x ≡ false = ap p (sym is) ∙ e in rw at_x refl
  | inr other ↦ rw other (and_false (p x))
]
  where
    and_false : (y : Bool) → (y && false) ≡ false
    and_false true = refl
    and_false false = refl

-- of the bits of a list, a filter keeps those that pass
kept_is : (p : Bit → Bool) (xs : List Bit) (k : ℕ) (d : Bit) → k < length xs → list_any (same_bit (get_or xs k d)) (filter p xs) ≡ p (get_or xs k d)
kept_is p xs k d lt =
    let b : Bit = get_or xs k d in
    any_filter (same_bit b) p xs ∙ elim (cases_Bool (p b)) [
      | inl passes ↦ list_any_at (λ x. p x && same_bit b x) xs k d lt (rw (passes, same_bit-self b) refl) ∙ sym passes
      | inr fails ↦ list_any_none (λ x. p x && same_bit b x) xs (λ j e j_lt. not_kept p b (get_or xs j e) fails) ∙ sym fails
    ]

-- ---- classes

module _ (t : ScanTest) (f : Fault) where
  covers-is : (b : Bit) → b.pattern < length t.patterns → covers (predicted_facts t f) b ≡ true
  covers-is b lt =
      let low : leb 0 b.pattern ≡ true = grind (arith, nat_tests) in
      let high : leb b.pattern (last_pattern t) ≡ true = grind (arith, nat_tests, lt) in
      rw (low, high) refl

  class-is : (k : ℕ) (d : Bit) → k < length (bits_of t)
      → class t (predicted_facts t f ∷ []) (get_or (bits_of t) k d) ≡ class_by (predicts_fail t f (get_or (bits_of t) k d)) (not (predicts_fail t f (get_or (bits_of t) k d))) (expected t (get_or (bits_of t) k d))
  class-is k d lt =
      let b : Bit = get_or (bits_of t) k d in
      let log : LogFacts = predicted_facts t f in
      let covered : covers log b ≡ true = covers-is b (patterns_within t k d lt) in
      let listed : lists log b ≡ predicts_fail t f b = kept_is (predicts_fail t f) (bits_of t) k d lt in
      let fails : ((covers log b && lists log b) || false) ≡ predicts_fail t f b = ap (λ (c : Bool). (c && lists log b) || false) covered ∙ ap (λ (l : Bool). l || false) listed ∙ or_false (predicts_fail t f b) in
      let passes : ((covers log b && not (lists log b)) || false) ≡ not (predicts_fail t f b) =
      ap (λ (c : Bool). (c && not (lists log b)) || false) covered ∙ ap (λ (l : Bool). not l || false) listed ∙ or_false (not (predicts_fail t f b)) in
      ap (λ (x : Bool). class_by x ((covers log b && not (lists log b)) || false) (expected t b)) fails ∙ ap (λ (x : Bool). class_by (predicts_fail t f b) x (expected t b)) passes

-- a bit with this expected value and this one under the fault fails in the log exactly where the fault predicts it
failing_is : (v u : Tri) → is_failing (class_by (are_opposite v u) (not (are_opposite v u)) v) ≡ are_opposite v u
failing_is Zero Zero = refl
failing_is Zero One = refl
failing_is Zero Unknown = refl
failing_is One Zero = refl
failing_is One One = refl
failing_is One Unknown = refl
failing_is Unknown Zero = refl
failing_is Unknown One = refl
failing_is Unknown Unknown = refl

not_passing : (v u : Tri) → (is_passing (class_by (are_opposite v u) (not (are_opposite v u)) v) && are_opposite v u) ≡ false
not_passing Zero Zero = refl
not_passing Zero One = refl
not_passing Zero Unknown = refl
not_passing One Zero = refl
not_passing One One = refl
not_passing One Unknown = refl
not_passing Unknown Zero = refl
not_passing Unknown One = refl
not_passing Unknown Unknown = refl

and_self : (x : Bool) → (x && x) ≡ x
and_self true = refl
and_self false = refl

and_not : (x : Bool) → (x && not x) ≡ false
and_not true = refl
and_not false = refl

-- ---- together

pub explains_own_log : (t : ScanTest) (f : Fault) → ExplainsOwnLog t f
explains_own_log t f = record {
  all_explained = count_agree _ (λ b. false) bits (λ k d lt. ap (λ (x : Bool). x && not (fails (get_or bits k d))) (failing k d lt) ∙ and_not (fails (get_or bits k d))) ∙ none_counted bits;
  none_wrong = count_agree _ (λ b. false) bits (λ k d lt. ap (λ (c : BitClass). is_passing c && fails (get_or bits k d)) (class-is t f k d lt) ∙ not_passing (expected t (get_or bits k d)) (value_of_bit t (Some f) (get_or bits k d))) ∙ none_counted bits;
  each_matched = matched ∙ sym (length-filter fails bits);
  some_matched = (λ le. some_found fails bits (omega (arith, matched, le)), λ found. omega (arith, matched, some_counted fails bits found));
}
  where
    bits : List Bit
    bits = bits_of t

    fails : Bit → Bool
    fails = predicts_fail t f

    failing : (k : ℕ) (d : Bit) → k < length bits → is_failing (class t (predicted_facts t f ∷ []) (get_or bits k d)) ≡ fails (get_or bits k d)
    failing k d lt = ap is_failing (class-is t f k d lt) ∙ failing_is (expected t (get_or bits k d)) (value_of_bit t (Some f) (get_or bits k d))

    matched : count_by (λ b. is_failing (class t (predicted_facts t f ∷ []) b) && fails b) bits ≡ count_by fails bits
    matched = count_agree _ fails bits (λ k d lt. ap (λ (x : Bool). x && fails (get_or bits k d)) (failing k d lt) ∙ and_self (fails (get_or bits k d)))
