-- The candidates of a list of faults, of whatever bits, classes and fails they are counted.
use Rattle.std.proofs.Common.{◌≡◌, ◌∙◌, ℕ, suc, ◌+◌, ◌<◌, ◌≤◌, Bool, true, false, cond, List, [], ◌∷◌, ap, subst, sym, length, map, arith}
use Rattle.std.specs.Prelude.{All, IsPermutation, filter}
use Rattle.std.specs.List.{enumerate_from, AllByRecursion, IsDistinct}
use Rattle.std.proofs.lemmas.Bool.{ne_eqb}
use Rattle.std.proofs.lemmas.List.Elements.{All-from_recursion}
use Rattle.std.proofs.lemmas.List.Sorted.{All-permutation}
use Rattle.scan_model.specs.declared.fault.Fault.{Fault}
use Rattle.scan_model.specs.declared.logs.Bit.{Bit}
use Rattle.scan_model.specs.declared.logs.BitClass.{BitClass}
use Rattle.scan_model.specs.declared.logs.Scored.{Scored}
use Rattle.scan_model.specs.MatchCounts.{candidates_by, is_candidate, scored_by}
use Rattle.scan_model.specs.Ranking.{same_place, ranked}

abbrev IsBetween : ℕ → ℕ → Scored → Type 0
IsBetween low high s = (low ≤ s.place) × (s.place < high)

weaker : (P Q : Scored → Type 0) → ((s : Scored) → P s → Q s) → (rows : List Scored) → AllByRecursion P rows → AllByRecursion Q rows
weaker P Q step [] all = tt
weaker P Q step (s ∷ rows) all = (step s all.0, weaker P Q step rows all.1)

module _ (bits : List Bit) (classes : Bit → BitClass) (fails : Fault → Bit → Bool) where
  -- the candidates of the faults from place n on
  abbrev from_place : ℕ → List Fault → List Scored
  from_place n faults = filter is_candidate (map (scored_by bits classes fails) (enumerate_from n faults))

  abbrev at_place : ℕ → Fault → Scored
  at_place n f = scored_by bits classes fails (n, f)

  between : (n : ℕ) (faults : List Fault) → AllByRecursion (IsBetween n (n + length faults)) (from_place n faults)
  between n [] = tt
  between n (f ∷ faults) =
      let later : AllByRecursion (IsBetween n (n + suc (length faults))) (from_place (n + 1) faults) =
      weaker (IsBetween (n + 1) (n + 1 + length faults)) (IsBetween n (n + suc (length faults))) (λ s h. (omega (arith, h.0), omega (arith, h.1))) (from_place (n + 1) faults) (between (n + 1) faults) in
      elim (is_candidate (at_place n f)) as (λ b. AllByRecursion (IsBetween n (n + suc (length faults))) (cond b (at_place n f ∷ from_place (n + 1) faults) (from_place (n + 1) faults))) [
        | true ↦ ((omega arith, omega arith), later)
        | false ↦ later
      ]

  distinct : (n : ℕ) (faults : List Fault) → IsDistinct same_place (from_place n faults)
  unfolding IsDistinct
  distinct n [] = tt
  distinct n (f ∷ faults) =
      let others : AllByRecursion (λ s. same_place (at_place n f) s ≡ false) (from_place (n + 1) faults) =
      weaker (IsBetween (n + 1) (n + 1 + length faults)) (λ s. same_place (at_place n f) s ≡ false) (λ s h. ne_eqb n s.place (omega (arith, h.0))) (from_place (n + 1) faults) (between (n + 1) faults) in
      elim (is_candidate (at_place n f)) as (λ b. IsDistinct same_place (cond b (at_place n f ∷ from_place (n + 1) faults) (from_place (n + 1) faults))) [
        | true ↦ (others, distinct (n + 1) faults)
        | false ↦ distinct (n + 1) faults
      ]

  module _ (faults : List Fault) (counted sorted : List Scored) (all : counted ≡ candidates_by faults bits classes fails) where
    -- their places are those of faults
    pub places : IsPermutation counted sorted → All (λ row. row.place < length faults) sorted
    places same =
        let Below : Scored → Type 0 = λ s. s.place < length faults in
        let found = candidates_by faults bits classes fails in
        let below = All-from_recursion Below found (weaker (IsBetween 0 (0 + length faults)) Below (λ s h. omega (arith, h.1)) found (between 0 faults)) in
        All-permutation Below counted sorted same (subst (All Below) (sym all) below)

    -- and there is one ranking order of them
    pub in_order : (IsDistinct same_place counted → sorted ≡ ranked counted) → sorted ≡ ranked (candidates_by faults bits classes fails)
    in_order one = one (subst (IsDistinct same_place) (sym all) (distinct 0 faults)) ∙ ap ranked all
