-- Values written to nets in one lane, the last first.
use Rattle.std.proofs.Common.{◌≡◌, ℕ, ◌+◌, ◌<◌, List, [], ◌∷◌, length, get_or, set, drop, refl, sym, ap, ◌∙◌, inl, inr, arith}
use Rattle.std.proofs.lemmas.Bool.{cases_eq, eq-eqb, ne_eqb}
use Rattle.std.proofs.lemmas.List.{drop_more, drop_all, get_or-set_same, get_or-set_other}
use Rattle.scan_model.specs.declared.values.Tri.{Tri}
use Rattle.scan_model.specs.declared.values.Tri.TheVariants.{Unknown}
use Rattle.scan_model.specs.ChainShift.{value_at}
use Rattle.scan_model.specs.NetValue.{assigned}
use Rattle.value_rows.specs.Planes.{Planes, held}
use Rattle.lane_rows.specs.Sources.{lane_values, no_planes}

-- one more value, written to a row's lane
pub assigned_row : (names : List ℕ) (values : List Tri) (rows : List Planes) (row : Planes) (before : ℕ → Tri) (at i j : ℕ) (v : Tri) → j < length names → j < length values → i ≡ j + 1 → get_or names j 0 < length rows → v ≡ value_at values j
    → held row at ≡ v
    → ((n : ℕ) → lane_values rows at n ≡ assigned (drop i names) (drop i values) before n)
    → (n : ℕ) → lane_values (set rows (get_or names j 0) row) at n ≡ assigned (drop j names) (drop j values) before n
assigned_row names values rows row before at i j v in_names in_values step in_rows is new so_far n =
    rw (drop_more names j 0 in_names, drop_more values j Unknown in_values, ← is, ← step) (elim (cases_eq n (get_or names j 0)) [
      | inl same ↦ rw (eq-eqb n (get_or names j 0) same) (ap (λ (m : ℕ). lane_values (set rows (get_or names j 0) row) at m) same ∙ ap (λ p. held p at) (get_or-set_same rows (get_or names j 0) row no_planes in_rows) ∙ new)
      | inr other ↦ rw (ne_eqb n (get_or names j 0) other) (ap (λ p. held p at) (get_or-set_other rows (get_or names j 0) n row no_planes other) ∙ so_far n)
    ])

-- a row with the same value in another lane
pub other_lane : (rows : List Planes) (m n j : ℕ) (row : Planes) → m < length rows → held row j ≡ lane_values rows j m → lane_values (set rows m row) j n ≡ lane_values rows j n
other_lane rows m n j row lt same = elim (cases_eq n m) [
  | inl here ↦ ap (λ (k : ℕ). lane_values (set rows m row) j k) here ∙ ap (λ p. held p j) (get_or-set_same rows m row no_planes lt) ∙ same ∙ ap (lane_values rows j) (sym here)
  | inr away ↦ ap (λ p. held p j) (get_or-set_other rows m n row no_planes away)
]

-- past the values nothing is assigned
pub assigned_none : (names : List ℕ) (f : ℕ → Tri) (n : ℕ) → assigned names [] f n ≡ f n
assigned_none [] f n = refl
assigned_none (m ∷ ms) f n = refl

-- before the first write from the back
pub none_left : (names : List ℕ) (values : List Tri) (f : ℕ → Tri) (n : ℕ) → f n ≡ assigned (drop (length values) names) (drop (length values) values) f n
none_left names values f n = rw (drop_all (length values) values (omega arith)) (sym (assigned_none (drop (length values) names) f n))
