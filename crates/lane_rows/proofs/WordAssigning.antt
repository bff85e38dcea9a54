-- Values of 64 lanes, written lane by lane, and then to nets.
use Rattle.std.proofs.Common.{◌≡◌, ◌≢◌, ℕ, zero, suc, ◌+◌, ◌<◌, ◌≤◌, cond, eqb, List, [], ◌∷◌, length, get_or, set, refl, sym, ap, ◌∙◌, inl, inr, arith}
use Rattle.std.proofs.lemmas.Bool.{cases_eq, cases_lt, eq-eqb, ne_eqb}
use Rattle.std.proofs.lemmas.List.{get_or-set_same, get_or-set_other, get_or_past}
use Rattle.scan_model.specs.declared.values.Tri.{Tri}
use Rattle.scan_model.specs.declared.values.Tri.TheVariants.{Unknown}
use Rattle.scan_model.specs.ChainShift.{value_at}
use Rattle.scan_model.specs.NetValue.{assigned}
use Rattle.lane_rows.specs.WordPlanes.{WordPlanes, column, held_in, no_word}

-- the value of lane j in word i of a list
abbrev pub lane_in : List WordPlanes → ℕ → ℕ → Tri
lane_in words i j = held_in (get_or words i no_word) j

-- ---- one word is written
module _ (words : List WordPlanes) (i at : ℕ) (new : WordPlanes) where
  pub lane_there : (values : List Tri) → i < length words → held_in new at ≡ value_at values i → ((k : ℕ) → k < i → lane_in words k at ≡ value_at values k)
      → (k : ℕ) → k < i + 1 → lane_in (set words i new) k at ≡ value_at values k
  lane_there values inside is so_far k lt = elim (cases_eq k i) [
    | inl same ↦ ap (λ (m : ℕ). lane_in (set words i new) m at) same ∙ ap (λ (w : WordPlanes). held_in w at) (get_or-set_same words i new no_word inside) ∙ is ∙ ap (value_at values) (sym same)
    | inr other ↦ ap (λ (w : WordPlanes). held_in w at) (get_or-set_other words i k new no_word other) ∙ so_far k (omega (arith, other))
  ]

  -- what a function of the place gives
  pub lane_given : (given : ℕ → Tri) → i < length words → held_in new at ≡ given i → (k : ℕ) → (k ≢ i → lane_in words k at ≡ given k) → lane_in (set words i new) k at ≡ given k
  lane_given given inside is k other_places = elim (cases_eq k i) [
    | inl same ↦ ap (λ (m : ℕ). lane_in (set words i new) m at) same ∙ ap (λ (w : WordPlanes). held_in w at) (get_or-set_same words i new no_word inside) ∙ is ∙ ap given (sym same)
    | inr other ↦ ap (λ (w : WordPlanes). held_in w at) (get_or-set_other words i k new no_word other) ∙ other_places other
  ]

  pub lane_behind : (before : List WordPlanes) → ((k : ℕ) → i ≤ k → lane_in words k at ≡ lane_in before k at) → (k : ℕ) → i + 1 ≤ k → lane_in (set words i new) k at ≡ lane_in before k at
  lane_behind before so_far k le = ap (λ (w : WordPlanes). held_in w at) (get_or-set_other words i k new no_word (λ e. omega arith)) ∙ so_far k (omega arith)

  pub lane_elsewhere : (before : List WordPlanes) → i < length words → held_in new at ≡ lane_in words i at → ((k : ℕ) → lane_in words k at ≡ lane_in before k at) → (k : ℕ) → lane_in (set words i new) k at ≡ lane_in before k at
  lane_elsewhere before inside is so_far k = elim (cases_eq k i) [
    | inl same ↦ ap (λ (m : ℕ). lane_in (set words i new) m at) same ∙ ap (λ (w : WordPlanes). held_in w at) (get_or-set_same words i new no_word inside) ∙ is ∙ so_far i ∙ ap (λ (m : ℕ). lane_in before m at) (sym same)
    | inr other ↦ ap (λ (w : WordPlanes). held_in w at) (get_or-set_other words i k new no_word other) ∙ so_far k
  ]

-- ---- a lane is written in all words
pub whole_lane : (old new : List WordPlanes) (values : List Tri) (at : ℕ) → ((i : ℕ) → i < length values → lane_in new i at ≡ value_at values i) → ((i : ℕ) → length values ≤ i → lane_in new i at ≡ lane_in old i at)
    → ((i : ℕ) → lane_in old i at ≡ Unknown) → (i : ℕ) → lane_in new i at ≡ value_at values i
whole_lane old new values at there behind blank i = elim (cases_lt i (length values)) [
  | inl inside ↦ there i inside
  | inr past ↦ behind i past ∙ blank i ∙ sym (get_or_past values i Unknown past)
]

-- ---- lanes given to nets
-- A lane gives nets what its values give them, where a net without a value has X.
pub column_assigned : (names : List ℕ) (words : List WordPlanes) (values : List Tri) (j n : ℕ) (f : ℕ → Tri) → length words ≡ length names → ((i : ℕ) → i < length words → lane_in words i j ≡ value_at values i)
    → ((i : ℕ) → i < length names → length values ≤ i → get_or names i 0 ≡ n → f n ≡ Unknown) → assigned names (column j words) f n ≡ assigned names values f n
column_assigned [] words values j n f len each away = refl
column_assigned (m ∷ names) [] values j n f len each away = absurd (omega arith)
column_assigned (m ∷ names) (w ∷ words) [] j n f len each away =
    let rest : assigned names (column j words) f n ≡ f n = column_assigned names words [] j n f (omega arith) (λ i lt. each (suc i) (omega arith) ∙ value_past i) (λ i lt le is. away (suc i) (omega arith) (omega arith) is) ∙ assigned_past names f n in
    elim (cases_eq n m) [
      | inl same ↦ rw (eq-eqb n m same) (each zero (omega arith) ∙ sym (away zero (omega arith) (omega arith) (sym same)))
      | inr other ↦ rw (ne_eqb n m other) rest
    ]
  where
    value_past : (i : ℕ) → value_at [] (suc i) ≡ value_at [] i
    value_past i = refl

    assigned_past : (names : List ℕ) (f : ℕ → Tri) (n : ℕ) → assigned names [] f n ≡ f n
    assigned_past [] f n = refl
    assigned_past (m ∷ ms) f n = refl
column_assigned (m ∷ names) (w ∷ words) (v ∷ values) j n f len each away =
    rw (each zero (omega arith)) (ap (cond (eqb n m) v) (column_assigned names words values j n f (omega arith) (λ i lt. each (suc i) (omega arith)) (λ i lt le is. away (suc i) (omega arith) (omega arith) is)))

-- a list gives nothing to a net that it doesn't name
pub assigned_away : (names : List ℕ) (values : List Tri) (f : ℕ → Tri) (n : ℕ) → ((i : ℕ) → i < length names → get_or names i 0 ≢ n) → assigned names values f n ≡ f n
assigned_away [] values f n away = refl
assigned_away (m ∷ names) [] f n away = refl
assigned_away (m ∷ names) (v ∷ values) f n away = rw (ne_eqb n m (λ e. away zero (omega arith) (sym e))) (assigned_away names values f n (λ i lt. away (suc i) (omega arith)))
