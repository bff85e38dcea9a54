-- Places of pairs in another order than that of the list.
use Rattle.std.proofs.Common.{◌≡◌, ℕ, ◌+◌, ◌-◌, ◌<◌, ◌≤◌, Bool, false, List, ◌++◌, length, map, get_or, set, take, drop, subst, sym, ap, ◌∙◌, inl, inr, arith}
use Rattle.std.specs.Prelude.{All, Contains, IsPermutation}
use Rattle.std.proofs.Math.Seq.{take-add}
use Rattle.std.proofs.lemmas.Bool.{cases_eq}
use Rattle.std.proofs.lemmas.List.{ext_get_or, get_or-map, get_or-set_same, get_or-set_other, length-map, take_all, take_more}
use Rattle.std.proofs.lemmas.List.Elements.{All-append, All-push}
use Rattle.std.proofs.lemmas.List.FromFn.{length-map-range_with_len, get_or-map-range_with_len}
use Rattle.std.proofs.lemmas.List.Sorted.{All-permutation, Contains-permutation}
use Rattle.scan_model.specs.declared.parts.Pair.{Pair}
use Rattle.scan_model.specs.Netlist.{Netlist}
use Rattle.bridge_pairs.specs.declared.start_places.StartPlace.{StartPlace}
use Rattle.bridge_pairs.specs.PairText.{is_feedback}
use Rattle.bridge_pairs.specs.StartPlaces.{no_pair, pair_at, start_place, start_places, IsNoted}

-- ---- all places

module _ (ranks : List ℕ) (pairs : List Pair) (places : List StartPlace) (all : IsPermutation (start_places ranks pairs) places) where
  pub places_within : All (λ s. s.place < length pairs) places
  places_within = All-permutation (λ s. s.place < length pairs) (start_places ranks pairs) places all (λ k d lt.
      let inside : k < length pairs = omega (arith, lt, length-map-range_with_len (start_place ranks pairs) 0 (length pairs)) in
      let is : get_or (start_places ranks pairs) k d ≡ start_place ranks pairs k = get_or-map-range_with_len (start_place ranks pairs) 0 (length pairs) k k d inside (omega arith) in
      rw is inside)

  place_found : (i : ℕ) → i < length pairs → Contains places (start_place ranks pairs i)
  place_found i lt = Contains-permutation (start_places ranks pairs) places (start_place ranks pairs i) all
      (i, omega (arith, lt, length-map-range_with_len (start_place ranks pairs) 0 (length pairs)), get_or-map-range_with_len (start_place ranks pairs) 0 (length pairs) i i (start_place ranks pairs i) lt (omega arith))

  -- where the pair at each place is noted, all are
  pub all_noted : (c : Netlist) (noted : List Bool) (at : ℕ) → length places ≤ at → length noted ≡ length pairs → All (λ s. IsNoted c pairs noted s.place) (take at places) → noted ≡ map (is_feedback c) pairs
  all_noted c noted at whole len right =
      ext_get_or false noted (map (is_feedback c) pairs) (len ∙ sym (length-map pairs (is_feedback c)))
      (λ i lt.
      let inside : i < length pairs = omega (arith, lt, len) in
      let found = place_found i inside in
      let every : All (λ s. IsNoted c pairs noted s.place) places = subst (λ xs. All (λ s. IsNoted c pairs noted s.place) xs) (take_all at places whole) right in
      let here : IsNoted c pairs noted (get_or places found.0 (start_place ranks pairs i)).place = every found.0 (start_place ranks pairs i) found.1 in
      let same : (get_or places found.0 (start_place ranks pairs i)).place ≡ i = ap (λ s. s.place) found.2 in
      let own : IsNoted c pairs noted i = subst (IsNoted c pairs noted) same here in
      own ∙ sym (get_or-map (is_feedback c) pairs i no_pair false inside))

-- one more batch
pub batch_noted : (P Q : StartPlace → Type 0) (places : List StartPlace) (at end : ℕ) → at ≤ end → All P (take at places) → ((s : StartPlace) → P s → Q s) → All Q (take (end - at) (drop at places)) → All Q (take end places)
batch_noted P Q places at end le before kept now =
    let split : at + (end - at) ≡ end = omega arith in
    let parts : take end places ≡ take at places ++ take (end - at) (drop at places) = ap (λ n. take n places) (sym split) ∙ take-add at (end - at) places in
    subst (λ xs. All Q xs) (sym parts) (All-append Q (take at places) (take (end - at) (drop at places)) (λ k d lt. kept (get_or (take at places) k d) (before k d lt)) now)

-- ---- one more place of a batch

module _ (c : Netlist) (pairs : List Pair) (old : List Bool) (place : ℕ) (answer : Bool) (inside : place < length old) (right : answer ≡ is_feedback c (pair_at pairs place)) where
  noted_here : IsNoted c pairs (set old place answer) place
  noted_here = get_or-set_same old place answer false inside ∙ right

  pub noted_still : (i : ℕ) → IsNoted c pairs old i → IsNoted c pairs (set old place answer) i
  noted_still i so_far = elim (cases_eq i place) [
    | inl same ↦ subst (IsNoted c pairs (set old place answer)) (sym same) noted_here
    | inr other ↦ get_or-set_other old place i answer false other ∙ so_far
  ]

  pub noted_more : (places : List StartPlace) (j : ℕ) (d : StartPlace) → j < length places → place ≡ (get_or places j d).place → All (λ s. IsNoted c pairs old s.place) (take j places) → All (λ s. IsNoted c pairs (set old place answer) s.place) (take (j + 1) places)
  noted_more places j d lt is so_far =
      let last : IsNoted c pairs (set old place answer) (get_or places j d).place = subst (IsNoted c pairs (set old place answer)) is noted_here in
      subst (λ xs. All (λ s. IsNoted c pairs (set old place answer) s.place) xs) (sym (take_more places j d lt))
      (All-push (λ s. IsNoted c pairs (set old place answer) s.place) (take j places) (get_or places j d) (λ k e before. noted_still (get_or (take j places) k e).place (so_far k e before)) last)

-- ---- the pairs of a batch

pub found_within : (P : Pair → Type 0) (pairs : List Pair) (places : List StartPlace) → All P pairs → All (λ s. s.place < length pairs) places → All P (map (λ s. pair_at pairs s.place) places)
found_within P pairs places all within k d lt =
    let none : StartPlace = record { rank = 0; place = 0 } in
    let inside : k < length places = omega (arith, lt, length-map places (λ s. pair_at pairs s.place)) in
    subst P (sym (get_or-map (λ s. pair_at pairs s.place) places k none d inside)) (all (get_or places k none).place no_pair (within k none inside))
