-- The nets that points observe, as a list and as a set, and the points of each net.
use Rattle.std.proofs.Common.{◌≡◌, ℕ, zero, suc, ◌+◌, ◌<◌, ◌≤◌, ◌||◌, Bool, true, false, eqb, List, length, map, get_or, refl, ap, sym, subst, inl, inr, ◌∙◌, arith}
use Rattle.std.specs.Prelude.{Contains, filter}
use Rattle.std.specs.List.{range_with_len}
use Rattle.std.proofs.lemmas.Bool.{cases_Bool, cases_eq, eq-eqb, eqb-true}
use Rattle.std.proofs.lemmas.List.{length-map, get_or-map, get_or_default}
use Rattle.std.proofs.lemmas.List.Elements.{Contains-get_or}
use Rattle.scan_model.specs.declared.parts.Point.TheVariants.{Output}
use Rattle.scan_model.specs.ScanTest.{ScanTest, IsScanTest, points_of, point_at}
use Rattle.scan_model.specs.Suspect.{observed_net}
use Rattle.scan_model.proofs.PointCount.{points_few}
use Rattle.scan_model.proofs.counting.Shown.{observed_net-in_range, point_at-IsPoint}
use Rattle.lane_rows.specs.Groups.{members}
use Rattle.packed_sim.specs.PackedParts.{AreObserved, observed_at, points_of_net}

pub are_observed : (t : ScanTest) → IsScanTest t → (nets : List ℕ) → nets ≡ map (observed_net t) (points_of t) → AreObserved t nets
are_observed t sound nets is =
    let len : length nets ≡ length (points_of t) = ap length is ∙ length-map (points_of t) (observed_net t) in
    record {
      are = is;
      in_range = λ k d lt.
          let in_points : k < length (points_of t) = omega (arith, len) in
          let here : get_or nets k d ≡ observed_at t k = ap (λ (l : List ℕ). get_or l k d) is ∙ get_or-map (observed_net t) (points_of t) k (Output 0) d in_points in
          omega (arith, here, observed_net-in_range t sound (point_at t k) (point_at-IsPoint t sound k in_points));
      few = omega (arith, len, points_few t sound);
    }

agree : (p q : ℕ → Bool) (a n : ℕ) → ((k : ℕ) → a ≤ k → k < a + n → p k ≡ q k) → filter p (range_with_len a n) ≡ filter q (range_with_len a n)
agree p q a zero same = refl
agree p q a (suc n) same =
    let first = same a (omega arith) (omega arith) in
    let rest = agree p q (a + 1) n (λ k le lt. same k (omega arith) (omega arith)) in
    rw (first, rest) refl

pub points_are : (t : ScanTest) (nets : List ℕ) (n : ℕ) → nets ≡ map (observed_net t) (points_of t) → members nets n (length nets) ≡ points_of_net t n
points_are t nets n is =
    let len : length nets ≡ length (points_of t) = ap length is ∙ length-map (points_of t) (observed_net t) in
    ap (members nets n) len
    ∙ agree (λ k. eqb (get_or nets k 0) n) (λ k. eqb (observed_at t k) n) 0 (length (points_of t))
    (λ k le lt. ap (λ (m : ℕ). eqb m n) (ap (λ (l : List ℕ). get_or l k 0) is ∙ get_or-map (observed_net t) (points_of t) k (Output 0) 0 (omega arith)))

-- ---- a set into which the nets of a list are put, one by one

one_is : (a b : Bool) → b ≡ true → (a || b) ≡ true
one_is true b is = refl
one_is false b is = is

module _ (listed : List ℕ) (i : ℕ) (before after : ℕ → Bool) (lt : i < length listed) (put : (n : ℕ) → after n ≡ (eqb n (get_or listed i 0) || before n)) where
  pub listed_in : ((k : ℕ) → k < i → before (get_or listed k 0) ≡ true) → (k : ℕ) → k < i + 1 → after (get_or listed k 0) ≡ true
  listed_in all k k_lt = put (get_or listed k 0) ∙ elim (cases_eq k i) [
    | inl same ↦ ap (λ (b : Bool). b || before (get_or listed k 0)) (eq-eqb (get_or listed k 0) (get_or listed i 0) (ap (λ (m : ℕ). get_or listed m 0) same))
    | inr other ↦ one_is (eqb (get_or listed k 0) (get_or listed i 0)) (before (get_or listed k 0)) (all k (omega arith))
  ]

  pub only_listed : ((n : ℕ) → before n ≡ true → Contains listed n) → (n : ℕ) → after n ≡ true → Contains listed n
  only_listed only n is = elim (cases_Bool (eqb n (get_or listed i 0))) [
    | inl same ↦ subst (Contains listed) (sym (eqb-true n (get_or listed i 0) same)) (Contains-get_or listed i 0 lt)
    | inr other ↦ only n (sym (put n ∙ ap (λ (b : Bool). b || before n) other) ∙ is)
  ]

pub all_listed : (listed : List ℕ) (has : ℕ → Bool) → ((k : ℕ) → k < length listed → has (get_or listed k 0) ≡ true) → (n : ℕ) → Contains listed n → has n ≡ true
all_listed listed has all n found = subst (λ (m : ℕ). has m ≡ true) (get_or_default listed found.0 0 n found.1 ∙ found.2) (all found.0 found.1)
