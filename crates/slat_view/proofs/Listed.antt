-- The faults that fit a pattern and the candidates, by their places in the list of faults.
use Rattle.std.proofs.Common.{◌≡◌, ℕ, ◌+◌, ◌<◌, Bool, List, [], ◌∷◌, length, map, refl, sym, ap, ◌∙◌, inl, inr, arith}
use Rattle.std.specs.Prelude.{filter}
use Rattle.std.specs.List.{range_with_len, enumerate_from}
use Rattle.std.proofs.lemmas.Bool.{cases_Bool}
use Rattle.std.proofs.lemmas.List.{ext_get_or}
use Rattle.std.proofs.lemmas.List.FromFn.{length-map-range_with_len, get_or-map-range_with_len, length-enumerate_from, get_or-enumerate_from}
use mathlib.Core.List.{map-map}
use Rattle.scan_model.specs.declared.fault.Fault.{Fault}
use Rattle.scan_model.specs.declared.logs.LogFacts.{LogFacts}
use Rattle.scan_model.specs.declared.logs.Scored.{Scored}
use Rattle.scan_model.specs.ScanTest.{ScanTest}
use Rattle.scan_model.specs.Universe.{universe}
use Rattle.scan_model.specs.ReportText.{no_fault}
use Rattle.scan_model.specs.MatchCounts.{is_candidate, scored, candidates}
use Rattle.diag_report.specs.PredictedLog.{fault_of}
use Rattle.slat_view.specs.Slat.{fits, fitting_places}

-- the faults of a list with their places in it
enumerated : (t : ScanTest) → enumerate_from 0 (universe t) ≡ map (λ p. (p, fault_of t p)) (range_with_len 0 (length (universe t)))
enumerated t =
    let n = length (universe t) in
    let f : ℕ → ℕ × Fault = λ p. (p, fault_of t p) in
    let d : ℕ × Fault = (0, no_fault) in
    ext_get_or d (enumerate_from 0 (universe t)) (map f (range_with_len 0 n)) (length-enumerate_from 0 (universe t) ∙ sym (length-map-range_with_len f 0 n))
    (λ i lt.
    let within : i < n = omega (arith, lt, length-enumerate_from 0 (universe t)) in
    let same : 0 + i ≡ i = omega arith in
    get_or-enumerate_from 0 (universe t) i d within ∙ ap (λ (k : ℕ). (k, fault_of t i)) same ∙ sym (get_or-map-range_with_len f 0 n i i d within same))

chosen : (f : ℕ → Fault) (q : Fault → Bool) (ps : List ℕ) → map (λ (e : ℕ × Fault). e.0) (filter (λ e. q e.1) (map (λ p. (p, f p)) ps)) ≡ filter (λ p. q (f p)) ps
chosen f q [] = refl
chosen f q (p ∷ ps) = elim (cases_Bool (q (f p))) [
  | inl is ↦ rw is (ap (λ (xs : List ℕ). p ∷ xs) (chosen f q ps))
  | inr is ↦ rw is (chosen f q ps)
]

module _ (t : ScanTest) (logs : List LogFacts) where
  pub fitting_are : (w : ℕ) → fitting_places t logs w ≡ filter (λ p. fits t logs w (fault_of t p)) (range_with_len 0 (length (universe t)))
  fitting_are w =
      ap (λ (es : List (ℕ × Fault)). map (λ e. e.0) (filter (λ e. fits t logs w e.1) es)) (enumerated t)
      ∙ chosen (fault_of t) (fits t logs w) (range_with_len 0 (length (universe t)))

  pub candidates_are : candidates t logs ≡ filter is_candidate (map (λ p. scored t logs (p, fault_of t p)) (range_with_len 0 (length (universe t))))
  candidates_are =
      ap (λ (es : List (ℕ × Fault)). filter is_candidate (map (scored t logs) es)) (enumerated t)
      ∙ ap (filter is_candidate) (map-map (scored t logs) (λ (p : ℕ). (p, fault_of t p)) (range_with_len 0 (length (universe t))))

  -- the places of candidates
  listed : (ps : List ℕ) → map (λ (row : Scored). row.place) (filter is_candidate (map (λ p. scored t logs (p, fault_of t p)) ps)) ≡ filter (λ p. is_candidate (scored t logs (p, fault_of t p))) ps
  listed [] = refl
  listed (p ∷ ps) = elim (cases_Bool (is_candidate (scored t logs (p, fault_of t p)))) [
    | inl is ↦ rw is (ap (λ (xs : List ℕ). p ∷ xs) (listed ps))
    | inr is ↦ rw is (listed ps)
  ]

  pub candidate_places : map (λ (row : Scored). row.place) (candidates t logs) ≡ filter (λ p. is_candidate (scored t logs (p, fault_of t p))) (range_with_len 0 (length (universe t)))
  candidate_places = ap (map (λ (row : Scored). row.place)) candidates_are ∙ listed (range_with_len 0 (length (universe t)))
