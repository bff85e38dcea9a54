-- What a scratch shows, net by net and point by point.
use Rattle.std.proofs.Common.{◌≡◌, ℕ, zero, suc, ◌+◌, ◌<◌, ◌≤◌, Bool, true, false, eqb, ◌&&◌, List, [], ◌∷◌, ◌++◌, length, get_or, refl, sym, ap, ◌∙◌, inl, inr, arith}
use Rattle.std.specs.Prelude.{All, Contains, IsTrue, ◌↔◌, filter, sum_by, nat_eq}
use Rattle.std.specs.List.{range_with_len, list_any, IsDistinct}
use Rattle.std.proofs.lemmas.Bool.{cases_Bool, eqb-true, eq-eqb, and_left}
use Rattle.std.proofs.lemmas.List.Sums.{sum_by-cons, sum_by_push, length-filter, count_by-le-length}
use Rattle.std.proofs.lemmas.List.Folds.{list_any_at}
use Rattle.std.proofs.lemmas.List.FromFn.{length-range_with_len}
use Rattle.scan_model.specs.Values.{are_opposite}
use Rattle.scan_model.specs.ScanTest.{ScanTest, IsScanTest, points_of}
use Rattle.scan_model.proofs.counting.Shown.{not_opposite_itself}
use Rattle.lane_rows.specs.Lanes.{lane, count_lanes}
use Rattle.lane_rows.proofs.LaneCounts.{same_lanes}
use Rattle.packed_sim.specs.declared.good.PackedGood.{PackedGood}
use Rattle.packed_sim.specs.declared.scratch.Scratch.{Scratch}
use Rattle.packed_sim.specs.PackedParts.{block_at, good_at, now_at, observed_at, has_own_row, points_of_net}
use Rattle.packed_sim.proofs.Belonging.{own_no_row}
use Rattle.log_rows.specs.declared.point_row.PointRow.{PointRow}
use Rattle.log_rows.specs.declared.side.Side.{Side}
use Rattle.match_counts.specs.Flips.{tallied, row_on, point_row_at, differs, caught_lane}
use Rattle.match_counts.proofs.Sums.{sum_zero, sum_sparse}
use Rattle.match_counts.proofs.Hits.{points_by_net}
use Rattle.match_counts.proofs.LaneSums.{no_lanes}

-- a sum over those that pass is of what is added there
pub sum_agree_where : (f g : ℕ → ℕ) (p : ℕ → Bool) (a n : ℕ) → ((k : ℕ) → a ≤ k → k < a + n → p k ≡ true → f k ≡ g k) → sum_by f (filter p (range_with_len a n)) ≡ sum_by g (filter p (range_with_len a n))
sum_agree_where f g p a zero same = refl
sum_agree_where f g p a (suc n) same =
    let rest = sum_agree_where f g p (a + 1) n (λ k low high. same k (omega arith) (omega arith)) in
    elim (cases_Bool (p a)) [
      | inl is ↦ rw (is, sum_by-cons f a (filter p (range_with_len (a + 1) n)), sum_by-cons g a (filter p (range_with_len (a + 1) n)), same a (omega arith) (omega arith) is, rest) refl
      | inr not_so ↦ rw not_so rest
    ]

module _ (t : ScanTest) (g : PackedGood) (s : Scratch) (b : ℕ) (rows : List PointRow) (side : Side) (m : ℕ → Bool) where
  -- at a net without a row of its own nothing shows
  silent : (k : ℕ) → has_own_row s (observed_at t k) ≡ false → count_lanes (λ j. caught_lane t g s b rows side k j && m j) ≡ 0
  silent k none = no_lanes (λ j. caught_lane t g s b rows side k j && m j) (λ j lt.
      let same : differs t g s b k j ≡ false = ap (λ x. are_opposite (good_at g b j (observed_at t k)) x) (own_no_row g s b j (observed_at t k) none) ∙ not_opposite_itself (good_at g b j (observed_at t k)) in
      and_left (caught_lane t g s b rows side k j) (m j) (and_left (differs t g s b k j && lane (block_at g b).capture j) (lane (row_on side (point_row_at rows k)) j) (and_left (differs t g s b k j) (lane (block_at g b).capture j) same)))

  -- the nets that have rows of their own show all
  pub shown_by_nets : (nets : List ℕ) → IsScanTest t → IsDistinct nat_eq nets → All (λ n. n < length t.netlist.nets) nets
      → ((n : ℕ) → n < length t.netlist.nets → list_any (eqb n) nets ≡ false → has_own_row s n ≡ false)
      → sum_by (λ n. sum_by (λ k. count_lanes (λ j. caught_lane t g s b rows side k j && m j)) (points_of_net t n)) nets ≡ sum_by (λ k. count_lanes (λ j. caught_lane t g s b rows side k j && m j)) (range_with_len 0 (length (points_of t)))
  shown_by_nets nets sound distinct below none =
      let f : ℕ → ℕ = λ k. count_lanes (λ j. caught_lane t g s b rows side k j && m j) in
      sym (points_by_net t f sound ∙ sum_sparse (λ n. sum_by f (points_of_net t n)) (length t.netlist.nets) nets distinct below (λ n lt absent.
      sum_agree_where f (λ k. 0) (λ k. eqb (observed_at t k) n) 0 (length (points_of t)) (λ k low high is. silent k (ap (has_own_row s) (eqb-true (observed_at t k) n is) ∙ none n lt absent))
      ∙ sum_zero (points_of_net t n)))

  -- at the points of net n, by the lanes in which it differs
  pub shown_of_net : (n : ℕ) (caught : List ℕ) → ((j : ℕ) → j < 512 → lane caught j ≡ (are_opposite (good_at g b j n) (now_at g s b j n) && lane (block_at g b).capture j))
      → sum_by (λ k. count_lanes (λ j. (lane caught j && lane (row_on side (point_row_at rows k)) j) && m j)) (points_of_net t n) ≡ sum_by (λ k. count_lanes (λ j. caught_lane t g s b rows side k j && m j)) (points_of_net t n)
  shown_of_net n caught is = sum_agree_where (λ k. count_lanes (λ j. (lane caught j && lane (row_on side (point_row_at rows k)) j) && m j)) (λ k. count_lanes (λ j. caught_lane t g s b rows side k j && m j))
      (λ k. eqb (observed_at t k) n) 0 (length (points_of t)) (λ k low high at.
      same_lanes (λ j. (lane caught j && lane (row_on side (point_row_at rows k)) j) && m j) (λ j. caught_lane t g s b rows side k j && m j) (λ j lt.
      ap (λ (x : Bool). (x && lane (row_on side (point_row_at rows k)) j) && m j) (is j lt ∙ ap (λ (o : ℕ). are_opposite (good_at g b j o) (now_at g s b j o) && lane (block_at g b).capture j) (sym (eqb-true (observed_at t k) n at)))))

absent_not_in : (n : ℕ) (nets : List ℕ) → list_any (eqb n) nets ≡ false → Contains nets n → ⊥
absent_not_in n nets none there = let e : true ≡ false = sym (list_any_at (eqb n) nets there.0 n there.1 (eq-eqb n (get_or nets there.0 n) (sym there.2))) ∙ none in cc

-- one item more of a list that was counted
pub tallied_push : (rows : List (List ℕ)) (r : List ℕ) (m : ℕ → Bool) → tallied (rows ++ r ∷ []) m ≡ tallied rows m + count_lanes (λ j. lane r j && m j)
tallied_push rows r m = sum_by_push (λ r. count_lanes (λ j. lane r j && m j)) rows r

-- masks with the same lanes count the same
pub same_tally : (rows : List (List ℕ)) (m p : ℕ → Bool) → ((j : ℕ) → j < 512 → m j ≡ p j) → tallied rows m ≡ tallied rows p
same_tally [] m p same = refl
same_tally (r ∷ rows) m p same =
    sum_by-cons (λ r. count_lanes (λ j. lane r j && m j)) r rows
    ∙ ap (λ (n : ℕ). n + tallied rows m) (same_lanes (λ j. lane r j && m j) (λ j. lane r j && p j) (λ j lt. ap (λ (x : Bool). lane r j && x) (same j lt)))
    ∙ ap (λ (n : ℕ). count_lanes (λ j. lane r j && p j) + n) (same_tally rows m p same)
    ∙ sym (sum_by-cons (λ r. count_lanes (λ j. lane r j && p j)) r rows)

-- a net that isn't among those with rows of their own has none
pub own_not : (s : Scratch) (n : ℕ) (nets : List ℕ) → ((n : ℕ) → Contains nets n ↔ IsTrue (has_own_row s n)) → list_any (eqb n) nets ≡ false → has_own_row s n ≡ false
own_not s n nets all absent = elim (cases_Bool (has_own_row s n)) [
  | inl has ↦ absurd (absent_not_in n nets absent ((all n).1 has))
  | inr none ↦ none
]

-- a sum over those outside which nothing is added
pub sum_where : (h : ℕ → ℕ) (p : ℕ → Bool) (a n : ℕ) → ((k : ℕ) → a ≤ k → k < a + n → p k ≡ false → h k ≡ 0) → sum_by h (range_with_len a n) ≡ sum_by h (filter p (range_with_len a n))
sum_where h p a zero none = refl
sum_where h p a (suc n) none =
    let rest = sum_where h p (a + 1) n (λ k low high. none k (omega arith) (omega arith)) in
    sum_by-cons h a (range_with_len (a + 1) n) ∙ elim (cases_Bool (p a)) [
      | inl is ↦ rw (is, sum_by-cons h a (filter p (range_with_len (a + 1) n)), rest) refl
      | inr not_so ↦ rw (not_so, none a (omega arith) (omega arith) not_so, rest) (omega arith)
    ]

pub points_few : (t : ScanTest) (n : ℕ) → length (points_of_net t n) ≤ length (points_of t)
points_few t n =
    let xs = range_with_len 0 (length (points_of t)) in
    omega (arith, length-filter (λ k. eqb (observed_at t k) n) xs, count_by-le-length (λ k. eqb (observed_at t k) n) xs, length-range_with_len 0 (length (points_of t)))
