-- Turns one after another, until nothing waits.
use Rattle.std.proofs.Common.{◌≡◌, ℕ, zero, suc, ◌+◌, ◌<◌, ◌≤◌, Bool, true, false, List, length, get_or, take, Some, None, refl, sym, ap, subst, ◌∙◌, inl, inr, add-one, arith}
use Rattle.std.specs.Prelude.{count_by}
use Rattle.std.proofs.lemmas.Bool.{cases_lt, cases_Bool, both_ways}
use Rattle.std.proofs.lemmas.List.{take_all}
use Rattle.std.proofs.lemmas.List.Sums.{count_by_more_yes, count_by_more_no}
use Rattle.scan_model.specs.declared.values.Tri.{Tri}
use Rattle.scan_model.specs.Netlist.{Netlist, IsNetlist, is_gate}
use Rattle.scan_model.specs.NetValue.{Forced}
use Rattle.lane_rows.specs.Planes.{Planes}
use Rattle.place_sets.specs.Places.{has_place, room, IsNextFrom}
use Rattle.lane_rows.specs.Wiring.{IsWired, Covers}
use Rattle.packed_sim.specs.declared.scratch.Scratch.{Scratch}
use Rattle.packed_sim.specs.Rows.{row_now}
use Rattle.packed_sim.specs.Propagation.{FitsScratch, IsClosed, IsFree, IsWithin, IsOpen, IsSettled, IsTurn, HasMoved}
use Rattle.packed_sim.proofs.Turns.{fits_next, leaf_next, above_next, within_next, open_next, waits_at}

-- What holds between two turns: nothing before a place waits any more.
pub record SoFar (c : Netlist) (order : List ℕ) (sinks : List (List ℕ)) (good : List Planes) (start now : Scratch) (from before steps : ℕ) : Type 0 where
  pub fits : FitsScratch c order good now
  pub above : (k : ℕ) → has_place now.waiting k ≡ true → from ≤ k
  pub from_le : from ≤ length order
  pub steps_le : steps ≤ before + from
  pub within : (behind : ℕ → Bool) → IsClosed c behind → IsWithin order behind start → IsWithin order behind now
  pub ticks : (behind : ℕ → Bool) → IsClosed c behind → IsWithin order behind start → steps ≤ before + count_by behind (take from order)
  pub rooms : room now.waiting ≡ room start.waiting
  pub leaves : (n : ℕ) → is_gate c n ≡ false → row_now now.overlay good n ≡ row_now start.overlay good n
  pub moved : HasMoved good start now
  pub still_open : (live behind : ℕ → Bool) (source : ℕ → Tri) (forced : Forced) (j : ℕ) → j < 512 → Covers c order sinks live → IsClosed c behind → IsFree behind forced → IsWithin order behind start
      → IsOpen c order good source forced live j start → IsOpen c order good source forced live j now

-- a longer front has no fewer
count_next : (p : ℕ → Bool) (xs : List ℕ) (a : ℕ) → count_by p (take a xs) ≤ count_by p (take (a + 1) xs)
count_next p xs a = elim (cases_lt a (length xs)) [
  | inl inside ↦ elim (cases_Bool (p (get_or xs a 0))) [
    | inl passes ↦ omega (arith, count_by_more_yes p xs a 0 inside passes)
    | inr fails ↦ omega (arith, count_by_more_no p xs a 0 inside fails)
  ]
  | inr past ↦ omega (arith, ap (count_by p) (take_all a xs past ∙ sym (take_all (a + 1) xs (omega arith))))
]

count_front : (p : ℕ → Bool) (xs : List ℕ) (a b : ℕ) → a ≤ b → count_by p (take a xs) ≤ count_by p (take b xs)
count_front p xs a zero le = let same : a ≡ 0 = omega arith in omega (arith, ap (λ (k : ℕ). count_by p (take k xs)) same)
count_front p xs a (suc b) le = elim (cases_lt a (suc b)) [
  | inl before ↦
      let next : count_by p (take b xs) ≤ count_by p (take (suc b) xs) = subst (λ (k : ℕ). count_by p (take b xs) ≤ count_by p (take k xs)) (add-one b) (count_next p xs b) in
      omega (arith, count_front p xs a b (omega arith), next)
  | inr at ↦ let same : a ≡ suc b = omega arith in omega (arith, ap (λ (k : ℕ). count_by p (take k xs)) same)
]

pub moved_on : (good : List Planes) (a b d : Scratch) → HasMoved good a b → HasMoved good b d → HasMoved good a d
moved_on good a b d first then' = record {
  others = λ n rests. then'.others n rests ∙ first.others n (elim (cases_Bool (has_place b.moved n)) [
    | inl was ↦ absurd (both_ways (has_place d.moved n) rests (then'.kept n was))
    | inr not' ↦ not'
  ]);
  kept = λ n was. then'.kept n (first.kept n was);
}

module _ (c : Netlist) (order : List ℕ) (sinks : List (List ℕ)) (good : List Planes) where
  pub so_far_none : (start : Scratch) (steps : ℕ) → FitsScratch c order good start → SoFar c order sinks good start start 0 steps steps
  so_far_none start steps fits = record {
    fits = fits;
    above = λ k is. omega arith;
    from_le = omega arith;
    steps_le = omega arith;
    within = λ behind closed within. within;
    ticks = λ behind closed within. omega arith;
    rooms = refl;
    leaves = λ n leaf. refl;
    moved = record { others = λ n rests. refl; kept = λ n was. was };
    still_open = λ live behind source forced j lane covers closed free within open'. open';
  }

  module _ (sound : IsNetlist c) (wired : IsWired c order sinks) (start now new : Scratch) (from before steps place : ℕ)
      (so_far : SoFar c order sinks good start now from before steps) (next : IsNextFrom (has_place now.waiting) from (Some place)) where
    pub place_in : place < length order
    place_in = so_far.fits.places place next.1

    pub place_first : (k : ℕ) → has_place now.waiting k ≡ true → place ≤ k
    place_first k is = elim (cases_lt k place) [
      | inl early ↦ absurd (both_ways (has_place now.waiting k) (next.2 k (so_far.above k is) early) is)
      | inr late ↦ late
    ]

    pub so_far_more : IsTurn c order sinks good place now new → SoFar c order sinks good start new (place + 1) before (steps + 1)
    so_far_more turn = record {
      fits = fits_next c order sinks good sound wired place now new place_in next.1 place_first turn so_far.fits;
      above = above_next c order sinks good sound wired place now new place_in next.1 place_first turn;
      from_le = omega (arith, place_in);
      steps_le = omega (arith, so_far.steps_le, next.0);
      within = λ behind closed within. within_next c order sinks good sound wired place now new place_in next.1 place_first turn behind closed (so_far.within behind closed within);
      ticks = λ behind closed within.
          let here = so_far.within behind closed within place next.1 in
          omega (arith, so_far.ticks behind closed within, count_front behind order from place next.0, count_by_more_yes behind order place 0 place_in here);
      rooms = turn.room ∙ so_far.rooms;
      leaves = λ n leaf. leaf_next c order sinks good sound wired place now new place_in next.1 place_first turn n leaf ∙ so_far.leaves n leaf;
      moved = moved_on good start now new so_far.moved turn.moved;
      still_open = λ live behind source forced j lane covers closed free within open'.
          open_next c order sinks good sound wired place now new place_in next.1 place_first turn live behind source forced j lane covers free (so_far.within behind closed within)
          (so_far.still_open live behind source forced j lane covers closed free within open');
    }

  module _ (start now : Scratch) (from before steps : ℕ) (so_far : SoFar c order sinks good start now from before steps) (none : IsNextFrom (has_place now.waiting) from None) where
    pub nothing_waits : (k : ℕ) → has_place now.waiting k ≡ false
    nothing_waits k = elim (cases_Bool (has_place now.waiting k)) [
      | inl waits ↦ none k (so_far.above k waits)
      | inr rests ↦ rests
    ]

    pub all_settled : (live behind : ℕ → Bool) (source : ℕ → Tri) (forced : Forced) (j : ℕ) → j < 512 → Covers c order sinks live → IsClosed c behind → IsFree behind forced → IsWithin order behind start
        → IsOpen c order good source forced live j start → IsSettled c good source forced live j now
    all_settled live behind source forced j lane covers closed free within open' n lt matter =
        elim (so_far.still_open live behind source forced j lane covers closed free within open' n lt matter) [
          | inl waited ↦ let at = waits_at order now.waiting n waited in absurd (both_ways (has_place now.waiting at.0) (nothing_waits at.0) at.3)
          | inr meets ↦ meets
        ]

    pub all_ticks : (behind : ℕ → Bool) → IsClosed c behind → IsWithin order behind start → steps ≤ before + count_by behind order
    all_ticks behind closed within =
        let whole : take (length order) order ≡ order = take_all (length order) order (omega arith) in
        omega (arith, so_far.ticks behind closed within, count_front behind order from (length order) so_far.from_le, ap (count_by behind) whole)
