-- What fits in the lanes of a block fits the patterns, and what is put to the fits.
use Rattle.std.proofs.Common.{◌≡◌, ℕ, zero, suc, ◌+◌, ◌*◌, ◌<◌, ◌≤◌, Bool, true, false, not, cond, ltb, ◌&&◌, ◌||◌, List, [], ◌∷◌, ◌++◌, length, map, Result, Ok, IfOk, refl, sym, ap, ◌∙◌, inl, inr, arith}
use Rattle.std.specs.Prelude.{filter}
use Rattle.std.specs.List.{list_any, range_with_len, flat_map, AllZip}
use Rattle.std.proofs.Math.Bool.{and-false}
use Rattle.std.proofs.lemmas.Bool.{cases_Bool}
use Rattle.std.proofs.lemmas.List.{map-append}
use Rattle.std.proofs.lemmas.List.Elements.{filter-append}
use Rattle.scan_model.specs.declared.fault.Fault.{Fault}
use Rattle.scan_model.specs.declared.rows.NoMemory.{NoMemory}
use Rattle.scan_model.specs.declared.logs.Bit.{Bit}
use Rattle.scan_model.specs.declared.logs.LogFacts.{LogFacts}
use Rattle.scan_model.specs.ScanTest.{ScanTest, points_of}
use Rattle.scan_model.specs.Coverage.{bit_of}
use Rattle.scan_model.specs.Classes.{class, is_failing, is_passing}
use Rattle.scan_model.specs.Response.{predicts_fail}
use Rattle.lane_rows.specs.Lanes.{lane}
use Rattle.lane_rows.specs.GoodRows.{pattern_of}
use Rattle.log_rows.specs.declared.point_row.PointRow.{PointRow}
use Rattle.fault_effects.specs.FaultModel.{point_model, fails_in}
use Rattle.match_counts.specs.Flips.{point_row_at}
use Rattle.log_rows.specs.PointRows.{ArePointRows}
use Rattle.diag_report.specs.PredictedLog.{fault_of}
use Rattle.pattern_fits.specs.declared.fit.Fit.{Fit}
use Rattle.slat_view.specs.Slat.{pattern_bits, is_failing_pattern, is_against, fits}
use Rattle.slat_view.specs.Tests.{fitting_among}
use Rattle.pattern_fits.specs.FitPlaces.{places_in}
use Rattle.slat_view.specs.Trials.{any_failing, is_against_at, any_against, fits_in, AreFits}
use Rattle.slat_view.proofs.Tables.{none_bad}
use Rattle.slat_view.proofs.Ranges.{any_same, any_and, any_map}

module _ (t : ScanTest) (logs : List LogFacts) (b : ℕ) (rows : List PointRow) (are : ArePointRows t logs b rows) (j : ℕ) (lt : j < 512) where
  abbrev there : Bool
  there = ltb (pattern_of b j) (length t.patterns)

  abbrev fails : ℕ → Bool
  fails k = is_failing (class t logs (bit_of (pattern_of b j) k))

  pub failing_lane : any_failing rows j ≡ (ltb (pattern_of b j) (length t.patterns) && is_failing_pattern t logs (pattern_of b j))
  failing_lane =
      any_same (λ k. lane (point_row_at rows k).failing j) (λ k. there && fails k) 0 (length rows) (λ k low high. (are.each k (omega (arith, high))).failing j lt)
      ∙ any_and there fails (range_with_len 0 (length rows))
      ∙ ap (λ (n : ℕ). there && list_any fails (range_with_len 0 n)) are.len
      ∙ ap (λ (x : Bool). there && x) (sym (any_map (λ x. is_failing (class t logs x)) (bit_of (pattern_of b j)) (range_with_len 0 (length (points_of t)))))

  -- where the pattern is there
  module _ (f : Fault) (is : ltb (pattern_of b j) (length t.patterns) ≡ true) where
    against_row : (k : ℕ) → k < length rows → is_against_at rows (fails_in (point_model t) b f) j k ≡ is_against t logs f (bit_of (pattern_of b j) k)
    against_row k within = rw ((are.each k within).failing j lt, (are.each k within).passing j lt, is) refl

    against_lane : any_against rows (fails_in (point_model t) b f) j ≡ list_any (is_against t logs f) (pattern_bits t (pattern_of b j))
    against_lane =
        any_same (is_against_at rows (fails_in (point_model t) b f) j) (λ k. is_against t logs f (bit_of (pattern_of b j) k)) 0 (length rows) (λ k low high. against_row k (omega (arith, high)))
        ∙ ap (λ (n : ℕ). list_any (λ k. is_against t logs f (bit_of (pattern_of b j) k)) (range_with_len 0 n)) are.len
        ∙ sym (any_map (is_against t logs f) (bit_of (pattern_of b j)) (range_with_len 0 (length (points_of t))))

    pub fits_there : fits_in t rows b f j ≡ fits t logs (pattern_of b j) f
    fits_there =
        ap (λ (x : Bool). any_failing rows j && x) (sym (none_bad rows (fails_in (point_model t) b f) j))
        ∙ rw (failing_lane, against_lane, is) refl

pub none_chosen : (p : ℕ → Bool) (xs : List ℕ) → ((x : ℕ) → p x ≡ false) → filter p xs ≡ []
none_chosen p [] none = refl
none_chosen p (x ∷ xs) none = rw none (none_chosen p xs none)

-- where no lane is failing nothing fits
pub none_fit : (t : ScanTest) (logs : List LogFacts) (w : ℕ) (places : List ℕ) → is_failing_pattern t logs w ≡ false → fitting_among t logs w places ≡ []
none_fit t logs w places none = none_chosen (λ p. fits t logs w (fault_of t p)) places (λ p. ap (λ (b : Bool). b && not (list_any (is_against t logs (fault_of t p)) (pattern_bits t w))) none)

-- ---- one more fault is tried

pub chosen : (fits : List Fit) (place : ℕ) (lanes : List ℕ) (j : ℕ) → places_in (fits ++ record { place = place; lanes = lanes } ∷ []) j ≡ places_in fits j ++ cond (lane lanes j) (place ∷ []) []
chosen fits place lanes j =
    ap (map (λ (f : Fit). f.place)) (filter-append (λ (f : Fit). lane f.lanes j) fits (record { place = place; lanes = lanes } ∷ []))
    ∙ map-append (λ (f : Fit). f.place) (filter (λ (f : Fit). lane f.lanes j) fits) (cond (lane lanes j) (record { place = place; lanes = lanes } ∷ []) [])
    ∙ ap (λ (ps : List ℕ). places_in fits j ++ ps) (one (lane lanes j))
  where
    one : (b : Bool) → map (λ (f : Fit). f.place) (cond b (record { place = place; lanes = lanes } ∷ []) []) ≡ cond b (place ∷ []) []
    one true = refl
    one false = refl

pub tried_more : (old new : List Fit) (place : ℕ) (lanes : List ℕ) (p : ℕ → Bool) (before : List ℕ) (j : ℕ) → places_in new j ≡ places_in old j ++ cond (lane lanes j) (place ∷ []) [] → places_in old j ≡ filter p before → lane lanes j ≡ p place
    → places_in new j ≡ filter p (before ++ place ∷ [])
tried_more old new place lanes p before j pushed so_far is = pushed ∙ rw (so_far, is) (sym (filter-append p before (place ∷ [])))

-- two tests that agree
pub same_chosen : (p q : ℕ → Bool) (xs : List ℕ) → ((x : ℕ) → p x ≡ q x) → filter p xs ≡ filter q xs
same_chosen p q [] same = refl
same_chosen p q (x ∷ xs) same = rw (same x, same_chosen p q xs same) refl
