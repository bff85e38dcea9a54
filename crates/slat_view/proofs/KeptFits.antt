-- Fits of one block more, and what is kept of all.
use Rattle.std.proofs.Common.{◌≡◌, ◌∙◌, ℕ, ◌+◌, ◌*◌, ◌/◌, ◌%◌, ◌<◌, ◌≤◌, List, [], ◌∷◌, ◌++◌, length, get_or, Option, Some, None, inl, inr, sym, ap, subst, arith}
use Rattle.std.specs.Prelude.{min, IfSome, OnSome}
use Rattle.std.specs.Option.{option_map, option_map_or}
use Rattle.std.proofs.lemmas.Bool.{cases_lt}
use Rattle.std.proofs.lemmas.List.{get_or_append_left, get_or-append-add, length-append}
use Rattle.std.proofs.lemmas.List.Sums.{sum_by-append}
use Rattle.scan_model.specs.declared.logs.LogFacts.{LogFacts}
use Rattle.scan_model.specs.ScanTest.{ScanTest}
use Rattle.pattern_fits.specs.declared.fit.Fit.{Fit}
use Rattle.slat_view.specs.declared.die_trials.BlockFits.{BlockFits}
use Rattle.slat_view.specs.Slat.{fitting_places}
use Rattle.slat_view.specs.Tests.{IsBlockOf, HaveAllFits, fitting_among}
use Rattle.pattern_fits.specs.FitPlaces.{places_in}
use Rattle.slat_view.specs.WholeCounts.{places_at, HavePlacesUpTo, fits_in}

abbrev pub with_fits : List Fit → List (List Fit) → List (List Fit)
with_fits fits before = before ++ fits ∷ []

some_is : (a b : List (List Fit)) → Some a ≡ Some b → a ≡ b
some_is a b e = cc

-- what holds of the blocks before holds with one block more, if they are kept
pub one_more : (P Q : List (List Fit) → Type 0) (fits : List Fit) (old new : Option (List (List Fit))) → OnSome new (new ≡ option_map (with_fits fits) old) → IfSome old P
    → ((before : List (List Fit)) → P before → Q (with_fits fits before)) → IfSome new Q
one_more P Q fits old None is was step = tt
one_more P Q fits None (Some after) is was step = absurd cc
one_more P Q fits (Some before) (Some after) is was step = subst Q (sym (some_is after (with_fits fits before) is)) (step before was)

-- two things that hold of what is kept
pub both_kept : (P Q : List (List Fit) → Type 0) (kept : Option (List (List Fit))) → IfSome kept P → IfSome kept Q → IfSome kept (λ blocks. P blocks × Q blocks)
both_kept P Q None one other = tt
both_kept P Q (Some blocks) one other = (one, other)

pub many_more : (b : ℕ) (before : List (List Fit)) (fits : List Fit) → length before ≡ b → length (with_fits fits before) ≡ b + 1
many_more b before fits many = omega (arith, many, length-append before (fits ∷ []))

pub fits_more : (before : List (List Fit)) (fits : List Fit) → fits_in (with_fits fits before) ≡ fits_in before + length fits
fits_more before fits = omega (arith, sum_by-append (λ (xs : List Fit). length xs) before (fits ∷ []))

-- the number of fits, where it is too large for none of the sums
pub few_more : (fits : List Fit) (count more most top : ℕ) (old new : Option (List (List Fit))) → OnSome new (new ≡ option_map (with_fits fits) old) → OnSome new (more ≤ most) → more ≡ min (count + length fits) top → most < top
    → IfSome old (λ blocks. (fits_in blocks ≤ count) × (count ≤ most)) → IfSome new (λ blocks. (fits_in blocks ≤ more) × (more ≤ most))
few_more fits count more most top old None is low sum below few = tt
few_more fits count more most top None (Some after) is low sum below few = absurd cc
few_more fits count more most top (Some before) (Some after) is low sum below few =
    let all : fits_in after ≡ fits_in before + length fits = ap fits_in (some_is after (with_fits fits before) is) ∙ fits_more before fits in
    (omega (arith, all, few.0, low, sum, below), low)

pub few_kept : (kept : Option (List (List Fit))) (count most : ℕ) → IfSome kept (λ blocks. (fits_in blocks ≤ count) × (count ≤ most)) → option_map_or fits_in kept 0 ≤ most
few_kept None count most few = omega arith
few_kept (Some blocks) count most few = omega (arith, few.0, few.1)

module _ (t : ScanTest) (logs : List LogFacts) where
  -- the places of a pattern of the last block
  last_places : (before : List (List Fit)) (fits : List Fit) (w : ℕ) → w / 512 ≡ length before → places_at (with_fits fits before) w ≡ places_in fits (w % 512)
  last_places before fits w here =
      let end : w / 512 ≡ length before + 0 = omega (arith, here) in
      ap (λ (xs : List Fit). places_in xs (w % 512)) (ap (λ (k : ℕ). get_or (with_fits fits before) k []) end ∙ get_or-append-add before (fits ∷ []) 0 [])

  -- the places of a pattern of a block before it
  first_places : (before : List (List Fit)) (fits : List Fit) (w : ℕ) → w / 512 < length before → places_at (with_fits fits before) w ≡ places_at before w
  first_places before fits w there = ap (λ (xs : List Fit). places_in xs (w % 512)) (get_or_append_left before (fits ∷ []) [] (w / 512) there)

  pub places_more : (b : ℕ) (before : List (List Fit)) (tried : BlockFits) (places : List ℕ) → length before ≡ b → HaveAllFits t logs places → IsBlockOf t logs b places tried
      → HavePlacesUpTo t logs (min (512 * b) (length t.patterns)) before → HavePlacesUpTo t logs (min (512 * (b + 1)) (length t.patterns)) (with_fits tried.fits before)
  places_more b before tried places many all block so_far w lt = elim (cases_lt (w / 512) b) [
    | inl low ↦ first_places before tried.fits w (omega (arith, low, many)) ∙ so_far w (omega (arith, low, lt))
    | inr high ↦
        let here : w / 512 ≡ b = omega (arith, high, lt) in
        let is : 512 * b + w % 512 ≡ w = omega (arith, here) in
        let lane_lt : w % 512 < 512 = omega arith in
        let there : 512 * b + w % 512 < length t.patterns = omega (arith, is, lt) in
        last_places before tried.fits w (omega (arith, here, many))
        ∙ block.fits (w % 512) lane_lt there
        ∙ ap (λ (n : ℕ). fitting_among t logs n places) is
        ∙ all w (omega (arith, lt))
  ]
