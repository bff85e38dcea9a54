-- A fault that explains no bit upstream of Failing bits explains none of these.
use Rattle.std.proofs.Common.{◌≡◌, ℕ, zero, suc, ◌+◌, ◌-◌, ◌≤◌, ◌<◌, Bool, true, false, cond, ◌&&◌, List, [], ◌∷◌, ◌++◌, length, map, get_or, Some, refl, ap, subst, ◌∙◌, inl, inr, arith}
use Rattle.std.specs.Prelude.{All, Contains, count_by, flat_map}
use Rattle.std.specs.List.{range_with_len, AllByRecursion}
use Rattle.std.proofs.lemmas.Bool.{cases_Bool, cases_eq, and_parts, both_ways, eq-eqb, le-leb}
use Rattle.std.proofs.lemmas.List.Elements.{All-cons, All-nil, All-weaker, Contains-append_left, Contains-append_right}
use Rattle.std.proofs.lemmas.List.Folds.{list_any_at}
use Rattle.std.proofs.lemmas.List.FromFn.{length-map-range_with_len, get_or-map-range_with_len}
use Rattle.std.proofs.lemmas.List.Sums.{sum_by-cons}
use Rattle.scan_model.specs.declared.values.Tri.{Tri}
use Rattle.scan_model.specs.declared.values.Tri.TheVariants.{Zero, One, Unknown}
use Rattle.scan_model.specs.declared.fault.Fault.{Fault}
use Rattle.scan_model.specs.declared.logs.Bit.{Bit}
use Rattle.scan_model.specs.declared.logs.Range.{Range}
use Rattle.scan_model.specs.declared.logs.LogFacts.{LogFacts}
use Rattle.scan_model.specs.Values.{are_opposite}
use Rattle.scan_model.specs.ScanTest.{ScanTest, IsScanTest, points_of, point_at}
use Rattle.scan_model.specs.Response.{expected, value_of_bit, predicts_fail}
use Rattle.scan_model.specs.Coverage.{bit_of, bits_of, bits_over, same_bit, lists, is_tested, FitsLog}
use Rattle.scan_model.specs.Classes.{class, class_by, is_failing}
use Rattle.scan_model.specs.MatchCounts.{counts_of}
use Rattle.compact_points.specs.Channels.{Compactor, IsCompactorOf}
use Rattle.chain_compactor.specs.CompactMatches.{compact_bits, compact_class, compact_counts_of, predicts_compact_fail}
use Rattle.chain_compactor.specs.TracedBits.{IsBitIn, AreBits, ListsUpstreamBits, complete_log}
use Rattle.chain_compactor.proofs.Members.{fail_has_one_behind}
use Rattle.chain_compactor.proofs.SeenPoints.{seen}

-- ---- counting

none_counted : {X : Type 0} (p : X → Bool) (xs : List X) → AllByRecursion (λ x. p x ≡ false) xs → count_by p xs ≡ 0
none_counted p [] all = refl
none_counted {X} p (x ∷ xs) all = rw (sum_by-cons (λ (y : X). cond (p y) 1 0) x xs, all.0, none_counted p xs all.1) refl

one_counted : {X : Type 0} (p : X → Bool) (xs : List X) (d : X) (i : ℕ) → i < length xs → p (get_or xs i d) ≡ true → count_by p xs ≡ 0 → ⊥
one_counted p [] d i lt is none = omega (arith, lt)
one_counted {X} p (x ∷ xs) d zero lt is none = omega (arith, ap (λ (b : Bool). cond {A = ℕ} b 1 0) is, sum_by-cons (λ (y : X). cond (p y) 1 0) x xs, none)
one_counted {X} p (x ∷ xs) d (suc i) lt is none = one_counted p xs d i (omega (arith, lt)) is (omega (arith, sum_by-cons (λ (y : X). cond (p y) 1 0) x xs, none))

in_flat : {X : Type 0} (f : ℕ → List X) (x : X) (a m n : ℕ) → a ≤ n → n < a + m → Contains (f n) x → Contains (flat_map f (range_with_len a m)) x
in_flat f x a zero n le lt has = absurd (omega arith)
in_flat {X} f x a (suc m) n le lt has = elim (cases_eq n a) [
  | inl same ↦ Contains-append_left (f a) (flat_map f (range_with_len (a + 1) m)) x (subst (λ (k : ℕ). Contains (f k) x) same has)
  | inr other ↦ Contains-append_right (f a) (flat_map f (range_with_len (a + 1) m)) x (in_flat f x (a + 1) m n (omega arith) (omega arith) has)
]

bit_there : (patterns points w k : ℕ) → w < patterns → k < points → Contains (bits_over patterns points) (bit_of w k)
bit_there patterns points w k w_lt k_lt = in_flat (λ v. map (bit_of v) (range_with_len 0 points)) (bit_of w k) 0 patterns w (omega arith) (omega arith)
    (k, omega (arith, length-map-range_with_len (bit_of w) 0 points), get_or-map-range_with_len (bit_of w) 0 points k k (bit_of w k) k_lt (omega arith))

all_append : (P : Bit → Type 0) (xs ys : List Bit) → AllByRecursion P xs → AllByRecursion P ys → AllByRecursion P (xs ++ ys)
all_append P [] ys a b = b
all_append P (x ∷ xs) ys a b = (a.0, all_append P xs ys a.1 b)

in_row : (P : Bit → Type 0) (w a n : ℕ) → ((k : ℕ) → k < a + n → P (bit_of w k)) → AllByRecursion P (map (bit_of w) (range_with_len a n))
in_row P w a zero each = tt
in_row P w a (suc n) each = (each a (omega arith), in_row P w (a + 1) n (λ k lt. each k (omega arith)))

-- what holds of each pattern at each point holds of each bit
each_bit : (P : Bit → Type 0) (points a n : ℕ) → ((w k : ℕ) → w < a + n → k < points → P (bit_of w k)) → AllByRecursion P (flat_map (λ w. map (bit_of w) (range_with_len 0 points)) (range_with_len a n))
each_bit P points a zero each = tt
each_bit P points a (suc n) each =
    all_append P (map (bit_of a) (range_with_len 0 points)) (flat_map (λ w. map (bit_of w) (range_with_len 0 points)) (range_with_len (a + 1) n))
    (in_row P a 0 points (λ k lt. each a k (omega arith) (omega arith))) (each_bit P points (a + 1) n (λ w k w_lt k_lt. each w k (omega arith) k_lt))

-- ---- a complete log that lists some bits

nothing_opposite : (u : Tri) → are_opposite Unknown u ≡ false
nothing_opposite Zero = refl
nothing_opposite One = refl
nothing_opposite Unknown = refl

definite_fails : (v u : Tri) → are_opposite v u ≡ true → is_failing (class_by true false v) ≡ true
definite_fails Zero u opposite = refl
definite_fails One u opposite = refl
definite_fails Unknown u opposite = absurd (both_ways (are_opposite Unknown u) (nothing_opposite u) opposite)

tests_all : (patterns : ℕ) (bits : List Bit) (w : ℕ) → w < patterns → is_tested (complete_log patterns bits) w ≡ true
tests_all patterns bits w lt = rw (le-leb 0 w (omega arith), le-leb w (patterns - 1) (omega (arith, lt))) refl

lists_it : (patterns : ℕ) (bits : List Bit) (w k : ℕ) → Contains bits (bit_of w k) → lists (complete_log patterns bits) (bit_of w k) ≡ true
lists_it patterns bits w k has = list_any_at (same_bit (bit_of w k)) bits has.0 (bit_of w k) has.1 (rw (has.2, eq-eqb w w refl, eq-eqb k k refl) refl)

pub complete_fits : (patterns points : ℕ) (bits : List Bit) → 0 < patterns → AreBits patterns points bits → FitsLog patterns points (complete_log patterns bits)
complete_fits patterns points bits some are = record {
  ranges = All-cons (λ (r : Range). r.last < patterns) (record { first = 0; last = patterns - 1 }) [] (omega (arith, some)) (All-nil (λ (r : Range). r.last < patterns));
  fails = All-weaker (IsBitIn patterns points) (λ (x : Bit). (is_tested (complete_log patterns bits) x.pattern ≡ true) × (x.point < points)) (λ x is. (tests_all patterns bits x.pattern is.0, is.1)) bits are;
  cuts = All-nil (All (λ k. k < points));
}

module _ (t : ScanTest) (sound : IsScanTest t) (c : Compactor) (made : IsCompactorOf t c) (logs : List LogFacts) (bits : List Bit) (listed : ListsUpstreamBits t c logs bits) where
  abbrev log : LogFacts
  log = complete_log (length t.patterns) bits

  explains_there : (f : Fault) (w k : ℕ) → w < length t.patterns → Contains bits (bit_of w k) → predicts_fail t f (bit_of w k) ≡ true → (is_failing (class t (log ∷ []) (bit_of w k)) && predicts_fail t f (bit_of w k)) ≡ true
  explains_there f w k lt has fails =
      rw (fails, tests_all (length t.patterns) bits w lt, lists_it (length t.patterns) bits w k has) (rw (definite_fails (expected t (bit_of w k)) (value_of_bit t (Some f) (bit_of w k)) fails) refl)

  pub none_explained : (f : Fault) → (counts_of t (log ∷ []) f).tfsf ≡ 0 → (compact_counts_of t c logs f).tfsf ≡ 0
  none_explained f none = none_counted explains (compact_bits t c) (each_bit (λ b. explains b ≡ false) (length c.points) 0 (length t.patterns) (λ w q w_lt q_lt. each w q (omega (arith, w_lt)) q_lt))
    where
      explains : Bit → Bool
      explains b = is_failing (compact_class t c logs b) && predicts_compact_fail t c f b

      plainly : Bit → Bool
      plainly b = is_failing (class t (log ∷ []) b) && predicts_fail t f b

      each : (w q : ℕ) → w < length t.patterns → q < length c.points → explains (bit_of w q) ≡ false
      each w q w_lt q_lt = elim (cases_Bool (explains (bit_of w q))) [
        | inr not_so ↦ not_so
        | inl so ↦
            let both = and_parts (is_failing (compact_class t c logs (bit_of w q))) (predicts_compact_fail t c f (bit_of w q)) so in
            let one = fail_has_one_behind t c made sound f w q q_lt both.1 in
            let k = one.0 in
            let has : Contains bits (bit_of w k) = listed w k q w_lt w_lt one.1.0 q_lt (seen t c made q q_lt (point_at t k) one.1.1) both.0 in
            let there = bit_there (length t.patterns) (length (points_of t)) w k w_lt one.1.0 in
            absurd (one_counted plainly (bits_of t) (bit_of w k) there.0 there.1 (ap plainly there.2 ∙ explains_there f w k w_lt has one.1.2) none)
      ]
