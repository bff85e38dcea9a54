-- The points that observe a net, the nets that points observe, and the nets with rows of their own.
use Rattle.std.proofs.Common.{◌≡◌, ℕ, ◌+◌, ◌<◌, ◌&&◌, Bool, true, false, true≢false, eqb, ltb, List, length, map, get_or, refl, sym, ap, subst, ◌∙◌, inl, inr, arith}
use Rattle.std.specs.Prelude.{All, Contains, IsTrue, ◌↔◌, filter, is_some, None}
use Rattle.std.specs.List.{range_with_len}
use Rattle.std.proofs.lemmas.Bool.{cases_Bool, both_ways, eq-eqb, ltb-true, ltb-false}
use Rattle.std.proofs.lemmas.List.{get_or_past, length-map, get_or-map}
use Rattle.std.proofs.lemmas.List.Elements.{All-filter, All-contains, filter_passes, Contains-get_or}
use Rattle.std.proofs.lemmas.List.FromFn.{length-range_with_len, get_or-range_with_len}
use Rattle.scan_model.specs.declared.fault.Fault.{Fault}
use Rattle.scan_model.specs.declared.parts.Point.TheVariants.{Output}
use Rattle.scan_model.specs.ScanTest.{ScanTest, points_of}
use Rattle.scan_model.specs.Suspect.{observed_net}
use Rattle.place_sets.specs.Places.{has_place}
use Rattle.scan_model.proofs.Orders.{filter_range_all}
use Rattle.packed_sim.specs.declared.good.PackedGood.{PackedGood}
use Rattle.packed_sim.specs.declared.scratch.Scratch.{Scratch}
use Rattle.packed_sim.specs.PackedParts.{AreObserving, IsBuiltFor, BelongsTo, IsScratchIn, observed_at, has_own_row, points_of_net}
use Rattle.fault_effects.specs.FaultModel.{FaultModel}
use Rattle.fault_effects.specs.Walks.{IsMovedAndObserved, IsNetDone}

-- what a filter keeps of the first numbers is one of them and passes
pub filtered : (p : ℕ → Bool) (a n : ℕ) → All (λ x. (x < a + n) × (p x ≡ true)) (filter p (range_with_len a n))
filtered p a n k d lt = (All-filter p (λ x. x < a + n) (range_with_len a n) below k d lt, filter_passes p (range_with_len a n) k d lt)
  where
    below : All (λ x. x < a + n) (range_with_len a n)
    below i e i_lt =
        let within : i < n = omega (arith, i_lt, length-range_with_len a n) in
        omega (arith, within, get_or-range_with_len a n i e within)

-- what holds of all points of a net holds of each point that observes it
pub of_net_points : (t : ScanTest) (n : ℕ) (Q : ℕ → Type 0) → All Q (points_of_net t n) → (k : ℕ) → k < length (points_of t) → observed_at t k ≡ n → Q k
of_net_points t n Q all k lt is = All-contains Q (points_of_net t n) k all (filter_range_all (λ x. eqb (observed_at t x) n) 0 (length (points_of t)) k (omega arith) (omega arith) (eq-eqb (observed_at t k) n is))

-- a net at which a point stands is among the observed ones
is_observed : (t : ScanTest) (n k : ℕ) → k < length (points_of t) → observed_at t k ≡ n → Contains (map (observed_net t) (points_of t)) n
is_observed t n k lt at =
    let nets = map (observed_net t) (points_of t) in
    let within : k < length nets = omega (arith, lt, length-map (points_of t) (observed_net t)) in
    subst (Contains nets) (get_or-map (observed_net t) (points_of t) k (Output 0) 0 lt ∙ at) (Contains-get_or nets k 0 within)

-- where no point observes a net, nothing is to be noted
pub done_unobserved : (t : ScanTest) (m : FaultModel) (b : ℕ) (f : Fault) (h : ℕ) (rows : List (List ℕ)) (n : ℕ) → (Contains (map (observed_net t) (points_of t)) n → ⊥) → IsNetDone t m b f h rows n
done_unobserved t m b f h rows n none = record {
  own = λ k lt at. absurd (none (is_observed t n k lt at));
  below = λ k i lt at is. absurd (none (is_observed t n k lt at));
}

both_of : (a b : Bool) → (a && b) ≡ true → (a ≡ true) × (b ≡ true)
both_of true b is = (refl, is)
both_of false b is = absurd (true≢false (sym is))

-- what is in the set of the marked nets and in that of the observed ones
module _ (t : ScanTest) (s : Scratch) (observing : List ℕ) (are : AreObserving t observing) (n : ℕ) where
  pub moved_and_observed : (has_place s.moved n && has_place observing n) ≡ true → IsMovedAndObserved t s n
  moved_and_observed is = let both = both_of (has_place s.moved n) (has_place observing n) is in (both.0, (are n).1 both.1)

  pub not_both : (has_place s.moved n && has_place observing n) ≡ false → IsMovedAndObserved t s n → ⊥
  not_both none both = both_ways (has_place s.moved n && has_place observing n) none (ap (λ (b : Bool). b && has_place observing n) both.0 ∙ (are n).0 both.1)

-- a net that has a row of its own is one of the circuit's
own_below : (s : Scratch) (n : ℕ) → has_own_row s n ≡ true → n < length s.overlay
own_below s n has = elim (cases_Bool (ltb n (length s.overlay))) [
  | inl is ↦ ltb-true n (length s.overlay) is
  | inr past ↦ absurd (let none : has_own_row s n ≡ false = ap is_some (get_or_past s.overlay n None (omega (arith, ltb-false n (length s.overlay) past))) in let e : true ≡ false = sym has ∙ none in cc)
]

-- so all of them are
pub own_all_within : (t : ScanTest) (g : PackedGood) (s : Scratch) (nets : List ℕ) → IsBuiltFor t g → IsScratchIn g s → ((n : ℕ) → Contains nets n ↔ IsTrue (has_own_row s n)) → All (λ n. n < length t.netlist.nets) nets
own_all_within t g s nets built scratch all k d lt = omega (arith, own_below s (get_or nets k d) ((all (get_or nets k d)).0 (Contains-get_or nets k d lt)), scratch.own, built.net_count)

pub own_all_below : (t : ScanTest) (g : PackedGood) (s : Scratch) (nets : List ℕ) → BelongsTo t g → IsScratchIn g s → ((n : ℕ) → Contains nets n ↔ IsTrue (has_own_row s n)) → All (λ n. n < length t.netlist.nets) nets
own_all_below t g s nets belongs = own_all_within t g s nets belongs.built
