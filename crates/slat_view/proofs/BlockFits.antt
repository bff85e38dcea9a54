-- Shares of a block in a table by suspect, and the fits that it lists.
use Rattle.std.proofs.Common.{◌≡◌, ℕ, zero, suc, ◌+◌, ◌<◌, Bool, List, [], ◌∷◌, length, get_or, set, map, sym, ap, ◌∙◌, inl, inr, arith}
use Rattle.std.specs.Prelude.{Contains}
use Rattle.std.proofs.lemmas.Bool.{cases_eq}
use Rattle.std.proofs.lemmas.List.{get_or-set_same, get_or-set_other, get_or-map, length-map}
use Rattle.lane_rows.specs.Lanes.{lane}
use Rattle.fault_effects.specs.declared.share.Share.{Share}
use Rattle.fault_effects.specs.Shares.{HasShare}
use Rattle.slat_view.specs.Trials.{lanes_at, no_share}

-- one share is put into the table
pub lanes_set : (table : List (List ℕ)) (q : ℕ) (row : List ℕ) (truth : ℕ → ℕ → Bool) (j : ℕ) → q < length table → lane row j ≡ truth q j → (i : ℕ) → lane (lanes_at table i) j ≡ truth i j → lane (lanes_at (set table q row) i) j ≡ truth i j
lanes_set table q row truth j within right i before = elim (cases_eq i q) [
  | inl same ↦ ap (λ (k : ℕ). lane (lanes_at (set table q row) k) j) same ∙ ap (λ (r : List ℕ). lane r j) (get_or-set_same table q row [] within) ∙ right ∙ ap (λ (k : ℕ). truth k j) (sym same)
  | inr other ↦ ap (λ (r : List ℕ). lane r j) (get_or-set_other table q i row [] other) ∙ before
]

pub lanes_here : (table : List (List ℕ)) (q : ℕ) (row : List ℕ) (truth : ℕ → ℕ → Bool) (j : ℕ) → q < length table → lane row j ≡ truth q j → lane (lanes_at (set table q row) q) j ≡ truth q j
lanes_here table q row truth j within right = ap (λ (r : List ℕ). lane r j) (get_or-set_same table q row [] within) ∙ right

-- a share is among shares, by its place
pub share_found : (shares : List (Share (List ℕ))) (i : ℕ) → HasShare shares i → (k : ℕ) × (k < length shares) × ((get_or shares k no_share).suspect ≡ i)
share_found shares i has =
    let within : has.0 < length shares = omega (arith, has.1, length-map shares (λ (s : Share (List ℕ)). s.suspect)) in
    (has.0, within, sym (get_or-map (λ (s : Share (List ℕ)). s.suspect) shares has.0 no_share i within) ∙ has.2)

-- a group that has something is one of the groups
pub group_there : (groups : List (List ℕ)) (n i : ℕ) → Contains (get_or groups n []) i → n < length groups
group_there [] n i has = absurd (omega (arith, has.1))
group_there (g ∷ gs) zero i has = omega arith
group_there (g ∷ gs) (suc n) i has = omega (arith, group_there gs n i has)
