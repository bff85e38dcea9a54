-- The candidates among suspects are all, where no other fault explains a Failing bit.
use Rattle.std.proofs.Common.{◌≡◌, ℕ, zero, suc, ◌+◌, ◌<◌, Bool, false, cond, List, [], ◌∷◌, length, map, Some, refl, sym, ap, subst, ◌∙◌, inl, inr, arith}
use Rattle.std.specs.Prelude.{Contains, filter, slice_get, nat_le}
use Rattle.std.specs.List.{range_with_len, enumerate_from}
use Rattle.std.proofs.lemmas.Bool.{cases_Bool, both_ways}
use Rattle.std.proofs.lemmas.List.FromFn.{fill_by_all, length-enumerate_from, get_or-enumerate_from}
use Rattle.std.proofs.lemmas.Option.{slice_get-get_or}
use Rattle.std.proofs.Math.Nat.{zero-add}
use Rattle.scan_model.specs.declared.fault.Fault.{Fault}
use Rattle.scan_model.specs.declared.fault.Fault.TheVariants as fault
use Rattle.scan_model.specs.declared.fault.Stuck.TheVariants as stuck
use Rattle.scan_model.specs.declared.logs.Bit.{Bit}
use Rattle.scan_model.specs.declared.logs.BitClass.{BitClass}
use Rattle.scan_model.specs.declared.logs.LogFacts.{LogFacts}
use Rattle.scan_model.specs.declared.logs.Scored.{Scored}
use Rattle.scan_model.specs.ScanTest.{ScanTest}
use Rattle.scan_model.specs.Universe.{universe}
use Rattle.scan_model.specs.MatchCounts.{counts_by, scored_by, is_candidate, candidates_by}
use Rattle.scan_model.specs.Suspect.{suspects, is_suspect}
use Rattle.scan_model.proofs.Orders.{filter_range_at}
use Rattle.match_counts.specs.Totals.{fault_in, candidates_in}
use Rattle.match_counts.proofs.CandidateRows.{all_candidates}

-- what has no candidates may be left out
candidates_kept : (row : ℕ → Scored) (q : ℕ → Bool) (a n : ℕ) → ((p : ℕ) → p < a + n → q p ≡ false → is_candidate (row p) ≡ false) → filter is_candidate (map row (range_with_len a n)) ≡ filter is_candidate (map row (filter q (range_with_len a n)))
candidates_kept row q a zero none = refl
candidates_kept row q a (suc n) none =
    let F : List ℕ = filter q (range_with_len (a + 1) n) in
    let rest : filter is_candidate (map row (range_with_len (a + 1) n)) ≡ filter is_candidate (map row F) = candidates_kept row q (a + 1) n (λ p lt. none p (omega (arith, lt))) in
    elim (cases_Bool (q a)) [
      | inl is ↦ rw is (ap (λ (xs : List Scored). cond (is_candidate (row a)) (row a ∷ xs) xs) rest)
      | inr is ↦ rw (is, none a (omega arith) is) rest
    ]

enumerated : (faults : List Fault) → enumerate_from 0 faults ≡ map (λ p. (p, fault_in faults p)) (range_with_len 0 (length faults))
enumerated faults =
    let f : ℕ → ℕ × Fault = λ p. (p, fault_in faults p) in
    let d : ℕ × Fault = (0, fault.Stem 0 stuck.Zero) in
    fill_by_all f (enumerate_from 0 faults) (length faults) d (length-enumerate_from 0 faults) (λ i lt. get_or-enumerate_from 0 faults i d lt ∙ ap (λ (k : ℕ). (k, fault_in faults i)) (zero-add i))

chosen : (f : ℕ → Fault) (q : Fault → Bool) (ps : List ℕ) → map (λ (e : ℕ × Fault). e.0) (filter (λ e. q e.1) (map (λ p. (p, f p)) ps)) ≡ filter (λ p. q (f p)) ps
chosen f q [] = refl
chosen f q (p ∷ ps) = elim (cases_Bool (q (f p))) [
  | inl is ↦ rw is (ap (λ (xs : List ℕ). p ∷ xs) (chosen f q ps))
  | inr is ↦ rw is (chosen f q ps)
]

module _ (t : ScanTest) (plain : List LogFacts) (bits : List Bit) (classes : Bit → BitClass) (fails : Fault → Bit → Bool) where
  abbrev is_suspect_at : ℕ → Bool
  is_suspect_at p = is_suspect t plain (fault_in (universe t) p)

  suspects_are : suspects t plain ≡ filter is_suspect_at (range_with_len 0 (length (universe t)))
  suspects_are = ap (λ (es : List (ℕ × Fault)). map (λ e. e.0) (filter (λ e. is_suspect t plain e.1) es)) (enumerated (universe t)) ∙ chosen (fault_in (universe t)) (is_suspect t plain) (range_with_len 0 (length (universe t)))

  pub among_suspects : ((k : ℕ) (f : Fault) → slice_get (universe t) k ≡ Some f → ¬ (Contains (suspects t plain) k) → (counts_by bits classes (fails f)).tfsf ≡ 0)
      → candidates_in (universe t) bits classes fails (suspects t plain) ≡ candidates_by (universe t) bits classes fails
  among_suspects outside =
      let n = length (universe t) in
      let row : ℕ → Scored = λ p. scored_by bits classes fails (p, fault_in (universe t) p) in
      ap (candidates_in (universe t) bits classes fails) suspects_are ∙ sym (candidates_kept row is_suspect_at 0 n (λ p lt none. explains_none p (omega (arith, lt)) none)) ∙ all_candidates (universe t) bits classes fails
    where
      explains_none : (p : ℕ) → p < length (universe t) → is_suspect_at p ≡ false → is_candidate (scored_by bits classes fails (p, fault_in (universe t) p)) ≡ false
      explains_none p lt none = ap (nat_le 1) (outside p (fault_in (universe t) p) (slice_get-get_or (universe t) p (fault.Stem 0 stuck.Zero) lt) (λ listed.
          let there : Contains (filter is_suspect_at (range_with_len 0 (length (universe t)))) p = subst (λ (ps : List ℕ). Contains ps p) suspects_are listed in
          both_ways (is_suspect_at p) none (ap is_suspect_at (sym there.2) ∙ (filter_range_at is_suspect_at 0 (length (universe t)) there.0 p there.1).2)))
