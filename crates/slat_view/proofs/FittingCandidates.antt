-- The marked faults have all that fit, and each of these is a candidate.
use Rattle.std.proofs.Common.{◌≡◌, ℕ, zero, suc, ◌+◌, ◌<◌, Bool, false, cond, List, [], ◌∷◌, length, map, refl, sym, ap, subst, ◌∙◌, inl, inr, arith}
use Rattle.std.specs.Prelude.{All, Contains, filter}
use Rattle.std.specs.List.{range_with_len}
use Rattle.std.proofs.lemmas.Bool.{cases_Bool, both_ways, le-leb}
use Rattle.scan_model.specs.declared.logs.LogFacts.{LogFacts}
use Rattle.scan_model.specs.declared.logs.Scored.{Scored}
use Rattle.scan_model.specs.ScanTest.{ScanTest}
use Rattle.scan_model.specs.Universe.{universe}
use Rattle.scan_model.specs.MatchCounts.{is_candidate, scored, candidates}
use Rattle.scan_model.specs.Marks.{is_marked}
use Rattle.scan_model.proofs.Orders.{filter_range_at, filter_range_all}
use Rattle.diag_report.specs.PredictedLog.{fault_of}
use Rattle.slat_view.specs.FitMarks.{HaveFitsUpTo}
use Rattle.slat_view.specs.Slat.{fits, fitting_places}
use Rattle.slat_view.specs.Tests.{HaveAllFits}
use Rattle.slat_view.proofs.Fitting.{fits_counts}
use Rattle.slat_view.proofs.Listed.{fitting_are, candidate_places}

-- what none passes may be left out
kept : (p q : ℕ → Bool) (a n : ℕ) → ((x : ℕ) → x < a + n → q x ≡ false → p x ≡ false) → filter p (range_with_len a n) ≡ filter p (filter q (range_with_len a n))
kept p q a zero none = refl
kept p q a (suc n) none =
    let rest = kept p q (a + 1) n (λ x lt. none x (omega (arith, lt))) in
    elim (cases_Bool (q a)) [
      | inl is ↦ rw is (ap (λ (xs : List ℕ). cond (p a) (a ∷ xs) xs) rest)
      | inr is ↦ rw (is, none a (omega arith) is) rest
    ]

module _ (t : ScanTest) (logs : List LogFacts) where
  abbrev fits_at : ℕ → ℕ → Bool
  fits_at w p = fits t logs w (fault_of t p)

  -- those that are marked have all that fit
  pub marked_fits : (marks : List Bool) → length marks ≡ length (universe t) → HaveFitsUpTo t logs (length t.patterns) marks → HaveAllFits t logs (filter (is_marked marks) (range_with_len 0 (length marks)))
  marked_fits marks len have w lt =
      let n = length marks in
      sym (kept (fits_at w) (is_marked marks) 0 n (λ p within none. elim (cases_Bool (fits_at w p)) [
        | inr misses ↦ misses
        | inl fitting ↦ absurd (both_ways (is_marked marks p) none (have p w (omega (arith, within, len)) lt lt fitting))
      ]))
      ∙ ap (λ (m : ℕ). filter (fits_at w) (range_with_len 0 m)) len
      ∙ sym (fitting_are t logs w)

  -- a fault that fits a pattern of the test is a candidate
  pub fitting_listed : (w : ℕ) → w < length t.patterns → All (Contains (map (λ (row : Scored). row.place) (candidates t logs))) (fitting_places t logs w)
  fitting_listed w lt =
      let n = length (universe t) in
      let each : All (Contains (filter (λ p. is_candidate (scored t logs (p, fault_of t p))) (range_with_len 0 n))) (filter (fits_at w) (range_with_len 0 n)) = λ k d within.
      let at = filter_range_at (fits_at w) 0 n k d within in
      filter_range_all (λ p. is_candidate (scored t logs (p, fault_of t p))) 0 n _ at.0 at.1 (le-leb 1 _ (fits_counts t logs _ w lt at.2)) in
      subst (λ (ps : List ℕ). All (Contains ps) (fitting_places t logs w)) (sym (candidate_places t logs))
      (subst (λ (qs : List ℕ). All (Contains (filter (λ p. is_candidate (scored t logs (p, fault_of t p))) (range_with_len 0 n))) qs) (sym (fitting_are t logs w)) each)
