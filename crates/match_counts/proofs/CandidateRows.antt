-- The candidates among the suspects, made of their totals, are all candidates.
use Rattle.std.proofs.Common.{◌≡◌, ℕ, zero, suc, ◌+◌, ◌-◌, ◌<◌, Bool, true, false, cond, not, nat_le, ◌&&◌, List, [], ◌∷◌, ◌++◌, length, map, take, Some, refl, sym, ap, subst, ◌∙◌, inl, inr, arith}
use Rattle.std.specs.Prelude.{All, Contains, filter, count_by, slice_get}
use Rattle.std.specs.List.{range_with_len, enumerate_from}
use Rattle.std.proofs.lemmas.Bool.{cases_Bool, both_ways}
use Rattle.std.proofs.lemmas.List.{map_more, map-append}
use Rattle.std.proofs.lemmas.List.Elements.{filter-append}
use Rattle.std.proofs.lemmas.List.FromFn.{fill_by_all, length-enumerate_from, get_or-enumerate_from}
use Rattle.std.proofs.Math.Nat.{zero-add}
use Rattle.std.proofs.lemmas.Option.{slice_get-get_or, get_or_from_slice_get}
use mathlib.Core.List.{map-map}
use Rattle.scan_model.specs.declared.logs.LogFacts.{LogFacts}
use Rattle.scan_model.specs.declared.logs.Bit.{Bit}
use Rattle.scan_model.specs.declared.logs.BitClass.{BitClass}
use Rattle.scan_model.specs.declared.logs.Scored.{Scored}
use Rattle.scan_model.specs.declared.fault.Fault.{Fault}
use Rattle.scan_model.specs.declared.fault.Fault.TheVariants as fault
use Rattle.scan_model.specs.declared.fault.Stuck.TheVariants as stuck
use Rattle.scan_model.specs.ScanTest.{ScanTest}
use Rattle.scan_model.specs.Response.{predicts_fail}
use Rattle.scan_model.specs.Universe.{universe}
use Rattle.scan_model.specs.Coverage.{bits_of}
use Rattle.scan_model.specs.Classes.{class, is_failing}
use Rattle.scan_model.specs.MatchCounts.{counts_by, counts_of, scored_by, is_candidate, scored, candidates_by, candidates}
use Rattle.scan_model.specs.Suspect.{suspects, is_suspect}
use Rattle.scan_model.proofs.Orders.{filter_range_at}
use Rattle.match_counts.specs.declared.totals.Total.{Total}
use Rattle.fault_effects.specs.declared.suspect.Suspect.{Suspect}
use Rattle.fault_effects.specs.Owners.{places_of, suspect_at, no_suspect}
use Rattle.match_counts.specs.Totals.{fault_in, TotalsSoFar, AreTotals, total_at, total_of, candidates_in, candidates_at}
use Rattle.match_counts.proofs.Sums.{sum_agree, sum_plus}

parted : (p q : Bool) → cond {A = ℕ} p 1 0 ≡ cond (p && q) 1 0 + cond (p && not q) 1 0
parted true true = omega arith
parted true false = omega arith
parted false q = omega arith

-- what passes one test passes the other or doesn't
count_parted : {X : Type 0} (p q : X → Bool) (xs : List X) → count_by p xs ≡ count_by (λ x. p x && q x) xs + count_by (λ x. p x && not (q x)) xs
count_parted {X} p q xs =
    sum_agree (λ (x : X). cond (p x) 1 0) (λ (x : X). cond (p x && q x) 1 0 + cond (p x && not (q x)) 1 0) xs (λ x. parted (p x) (q x))
    ∙ sum_plus (λ (x : X). cond (p x && q x) 1 0) (λ (x : X). cond (p x && not (q x)) 1 0) xs

-- the faults of a list with their places in it
enumerated : (faults : List Fault) → enumerate_from 0 faults ≡ map (λ p. (p, fault_in faults p)) (range_with_len 0 (length faults))
enumerated faults =
    let n = length faults in
    let f : ℕ → ℕ × Fault = λ p. (p, fault_in faults p) in
    let d : ℕ × Fault = (0, fault.Stem 0 stuck.Zero) in
    fill_by_all f (enumerate_from 0 faults) n d (length-enumerate_from 0 faults) (λ i lt. get_or-enumerate_from 0 faults i d lt ∙ ap (λ (k : ℕ). (k, fault_in faults i)) (zero-add i))

-- ---- the rows of suspects, made of their totals

abbrev pub row_of : ℕ → Total → ℕ → Scored
row_of place total tfsp = record { place = place; counts = record { tfsf = total.tfsf; tfsp = tfsp; tpsf = total.tpsf } }

module _ (faults : List Fault) (bits : List Bit) (classes : Bit → BitClass) (fails : Fault → Bit → Bool) where
  -- the Failing bits that a fault doesn't explain
  rest_is : (f : Fault) → count_by (λ b. is_failing (classes b)) bits - (counts_by bits classes (fails f)).tfsf ≡ (counts_by bits classes (fails f)).tfsp
  rest_is f = omega (arith, count_parted (λ b. is_failing (classes b)) (fails f) bits)

  abbrev row_at : ℕ → Scored
  row_at place = scored_by bits classes fails (place, fault_in faults place)

  -- the row of a suspect
  row_is : (s : Suspect) (failing tfsp : ℕ) (total : Total) → slice_get faults s.place ≡ Some s.fault → failing ≡ count_by (λ b. is_failing (classes b)) bits → total ≡ total_of bits classes fails s.fault → tfsp ≡ failing - total.tfsf → row_of s.place total tfsp ≡ row_at s.place
  row_is s failing tfsp total stands counted is rest =
      let c = counts_by bits classes (fails s.fault) in
      let same : tfsp ≡ c.tfsp = rest ∙ ap (λ (n : ℕ). n - total.tfsf) counted ∙ ap (λ (x : Total). count_by (λ b. is_failing (classes b)) bits - x.tfsf) is ∙ rest_is s.fault in
      let of_fault : row_of s.place total tfsp ≡ scored_by bits classes fails (s.place, s.fault) = rw (is, same) refl in
      of_fault ∙ ap (λ (f : Fault). scored_by bits classes fails (s.place, f)) (sym (get_or_from_slice_get faults s.place s.fault (fault.Stem 0 stuck.Zero) stands))

  -- one suspect more
  pub rows_more : (xs : List Suspect) (k tfsp : ℕ) (counts : TotalsSoFar) (old new : List Scored) → All (λ s. slice_get faults s.place ≡ Some s.fault) xs → AreTotals bits classes fails xs counts → k < length xs
      → tfsp ≡ counts.failing - (total_at counts.totals k).tfsf → old ≡ candidates_in faults bits classes fails (places_of (take k xs))
      → new ≡ old ++ cond (is_candidate (row_of (suspect_at xs k).place (total_at counts.totals k) tfsp)) (row_of (suspect_at xs k).place (total_at counts.totals k) tfsp ∷ []) []
      → new ≡ candidates_in faults bits classes fails (places_of (take (k + 1) xs))
  rows_more xs k tfsp counts old new stand sums within rest so_far pushed =
      let place = (suspect_at xs k).place in
      let before = places_of (take k xs) in
      let is = row_is (suspect_at xs k) counts.failing tfsp (total_at counts.totals k) (stand k no_suspect within) sums.failing (sums.whole k within) rest in
      pushed
      ∙ ap (λ (s : Scored). old ++ cond (is_candidate s) (s ∷ []) []) is
      ∙ rw (so_far, map_more (λ (s : Suspect). s.place) xs k no_suspect within, map-append row_at before (place ∷ []))
      (sym (filter-append is_candidate (map row_at before) (row_at place ∷ [])))

  -- those at all places
  pub all_candidates : candidates_in faults bits classes fails (range_with_len 0 (length faults)) ≡ candidates_by faults bits classes fails
  all_candidates =
      sym (ap (λ (es : List (ℕ × Fault)). filter is_candidate (map (scored_by bits classes fails) es)) (enumerated faults)
      ∙ ap (filter is_candidate) (map-map (scored_by bits classes fails) (λ (p : ℕ). (p, fault_in faults p)) (range_with_len 0 (length faults))))

-- ---- the suspects' candidates are all

-- what has no candidates may be left out
candidates_kept : (row : ℕ → Scored) (q : ℕ → Bool) (a n : ℕ) → ((p : ℕ) → p < a + n → q p ≡ false → is_candidate (row p) ≡ false) → filter is_candidate (map row (range_with_len a n)) ≡ filter is_candidate (map row (filter q (range_with_len a n)))
candidates_kept row q a zero none = refl
candidates_kept row q a (suc n) none =
    let F : List ℕ = filter q (range_with_len (a + 1) n) in
    let rest : filter is_candidate (map row (range_with_len (a + 1) n)) ≡ filter is_candidate (map row F) = candidates_kept row q (a + 1) n (λ p lt. none p (omega (arith, lt))) in
    elim (cases_Bool (q a)) [
      | inl is ↦ rw is (ap (λ (xs : List Scored). cond (is_candidate (row a)) (row a ∷ xs) xs) rest)
      | inr is ↦ rw (is, none a (omega arith) is) rest
    ]

chosen : (f : ℕ → Fault) (q : Fault → Bool) (ps : List ℕ) → map (λ (e : ℕ × Fault). e.0) (filter (λ e. q e.1) (map (λ p. (p, f p)) ps)) ≡ filter (λ p. q (f p)) ps
chosen f q [] = refl
chosen f q (p ∷ ps) = elim (cases_Bool (q (f p))) [
  | inl is ↦ rw is (ap (λ (xs : List ℕ). p ∷ xs) (chosen f q ps))
  | inr is ↦ rw is (chosen f q ps)
]

module _ (t : ScanTest) (logs : List LogFacts) where
  abbrev is_suspect_at : ℕ → Bool
  is_suspect_at p = is_suspect t logs (fault_in (universe t) p)

  suspects_are : suspects t logs ≡ filter is_suspect_at (range_with_len 0 (length (universe t)))
  suspects_are = ap (λ (es : List (ℕ × Fault)). map (λ e. e.0) (filter (λ e. is_suspect t logs e.1) es)) (enumerated (universe t)) ∙ chosen (fault_in (universe t)) (is_suspect t logs) (range_with_len 0 (length (universe t)))

  pub suspects_below : All (λ p. p < length (universe t)) (suspects t logs)
  suspects_below = rw suspects_are (λ k d lt. omega (arith, (filter_range_at is_suspect_at 0 (length (universe t)) k d lt).1))

  -- where a place that isn't listed explains nothing
  pub suspects_candidates : ((k : ℕ) (f : Fault) → slice_get (universe t) k ≡ Some f → ¬ (Contains (suspects t logs) k) → (counts_of t logs f).tfsf ≡ 0) → candidates_at t logs (suspects t logs) ≡ candidates t logs
  suspects_candidates outside =
      let n = length (universe t) in
      let row : ℕ → Scored = λ p. scored t logs (p, fault_in (universe t) p) in
      ap (candidates_at t logs) suspects_are ∙ sym (candidates_kept row is_suspect_at 0 n (λ p lt none. explains_none p (omega (arith, lt)) none)) ∙ all_candidates (universe t) (bits_of t) (class t logs) (predicts_fail t)
    where
      explains_none : (p : ℕ) → p < length (universe t) → is_suspect_at p ≡ false → is_candidate (scored t logs (p, fault_in (universe t) p)) ≡ false
      explains_none p lt none = ap (nat_le 1) (outside p (fault_in (universe t) p) (slice_get-get_or (universe t) p (fault.Stem 0 stuck.Zero) lt) (λ listed.
          let there : Contains (filter is_suspect_at (range_with_len 0 (length (universe t)))) p = subst (λ (ps : List ℕ). Contains ps p) suspects_are listed in
          both_ways (is_suspect_at p) none (ap is_suspect_at (sym there.2) ∙ (filter_range_at is_suspect_at 0 (length (universe t)) there.0 p there.1).2)))
