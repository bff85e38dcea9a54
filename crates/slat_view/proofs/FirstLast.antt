-- Where some point is Failing, one is the first and one the last.
use Rattle.std.proofs.Common.{◌≡◌, ◌≢◌, ℕ, zero, suc, ◌+◌, ◌-◌, ◌<◌, ◌≤◌, Bool, true, false, not, ◌||◌, List, ◌++◌, ◌∷◌, [], length, get_or, set, refl, sym, ap, ◌∙◌, inl, inr, arith}
use Rattle.std.specs.List.{list_any, range_with_len}
use Rattle.std.proofs.lemmas.Bool.{cases_Bool, and_from}
use Rattle.std.proofs.lemmas.List.{get_or_append_left, get_or-append-add, get_or-set_same, get_or-set_other}
use Rattle.lane_rows.specs.Lanes.{lane}
use Rattle.log_rows.specs.declared.point_row.PointRow.{PointRow}
use Rattle.explained_lanes.specs.Fails.{fails_at}
use Rattle.slat_view.specs.Ends.{is_failing_at, any_before, any_from, is_first, is_last}
use Rattle.slat_view.specs.Trials.{any_failing}
use Rattle.slat_view.proofs.Ranges.{any_more}

or_none : (x y : Bool) → x ≡ false → (x || y) ≡ true → y ≡ true
or_none x y none e = rw none at e

none_or : (x y : Bool) → y ≡ false → (x || y) ≡ true → x ≡ true
none_or true y none e = refl
none_or false y none e = sym none ∙ e

-- the first number that passes
first_there : (p : ℕ → Bool) (n : ℕ) → list_any p (range_with_len 0 n) ≡ true → (k : ℕ) × (k < n) × (p k ≡ true) × (list_any p (range_with_len 0 k) ≡ false)
first_there p zero e = absurd cc
first_there p (suc n) e = elim (cases_Bool (list_any p (range_with_len 0 n))) [
  | inl before ↦ let r = first_there p n before in (r.0, omega (arith, r.1), r.2, r.3)
  | inr none ↦
      let more : list_any p (range_with_len 0 (suc n)) ≡ (list_any p (range_with_len 0 n) || p n) = ap (λ (m : ℕ). list_any p (range_with_len 0 m)) (let next : suc n ≡ n + 1 = omega arith in next) ∙ any_more p n in
      (n, omega arith, or_none (list_any p (range_with_len 0 n)) (p n) none (sym more ∙ e), none)
]

-- the last one
last_there : (p : ℕ → Bool) (a n : ℕ) → list_any p (range_with_len a n) ≡ true → (k : ℕ) × (a ≤ k) × (k < a + n) × (p k ≡ true) × (list_any p (range_with_len (k + 1) (a + n - (k + 1))) ≡ false)
last_there p a zero e = absurd cc
last_there p a (suc n) e = elim (cases_Bool (list_any p (range_with_len (a + 1) n))) [
  | inl behind ↦
      let r = last_there p (a + 1) n behind in
      let same : a + suc n - (r.0 + 1) ≡ a + 1 + n - (r.0 + 1) = omega arith in
      (r.0, omega (arith, r.1), omega (arith, r.2), r.3, ap (λ (m : ℕ). list_any p (range_with_len (r.0 + 1) m)) same ∙ r.4)
  | inr none ↦
      let same : a + suc n - (a + 1) ≡ n = omega arith in
      (a, omega arith, omega arith, none_or (p a) (list_any p (range_with_len (a + 1) n)) none e, ap (λ (m : ℕ). list_any p (range_with_len (a + 1) m)) same ∙ none)
]

not_false : (b : Bool) → b ≡ false → not b ≡ true
not_false b none = ap not none

module _ (rows : List PointRow) (j : ℕ) (failing : any_failing rows j ≡ true) where
  pub first_failing_there : (k : ℕ) × (k < length rows) × (is_failing_at rows j k ≡ true) × (is_first rows j k ≡ true)
  first_failing_there =
      let r = first_there (is_failing_at rows j) (length rows) failing in
      (r.0, r.1, r.2, and_from (is_failing_at rows j r.0) (not (any_before rows j r.0)) r.2 (not_false (any_before rows j r.0) r.3))

  pub last_failing_there : (k : ℕ) × (k < length rows) × (is_failing_at rows j k ≡ true) × (is_last rows j k ≡ true)
  last_failing_there =
      let r = last_there (is_failing_at rows j) 0 (length rows) failing in
      let same : length rows - (r.0 + 1) ≡ 0 + length rows - (r.0 + 1) = omega arith in
      let none : any_from rows j (r.0 + 1) ≡ false = ap (λ (m : ℕ). list_any (is_failing_at rows j) (range_with_len (r.0 + 1) m)) same ∙ r.4 in
      (r.0, omega (arith, r.2), r.3, and_from (is_failing_at rows j r.0) (not (any_from rows j (r.0 + 1))) r.3 (not_false (any_from rows j (r.0 + 1)) none))

-- one point more from behind
pub from_more : (rows : List PointRow) (j k : ℕ) → k < length rows → any_from rows j k ≡ (is_failing_at rows j k || any_from rows j (k + 1))
from_more rows j k lt =
    let more : length rows - k ≡ suc (length rows - (k + 1)) = omega (arith, lt) in
    ap (λ (m : ℕ). list_any (is_failing_at rows j) (range_with_len k m)) more

-- a row behind others
pub pushed_at : (ends : List (List ℕ)) (row : List ℕ) (j k q : ℕ) (b : Bool) → length ends ≡ k → lane row j ≡ b → q ≡ k → fails_at (ends ++ row ∷ []) j q ≡ b
pushed_at ends row j k q b len is same =
    let at : get_or (ends ++ row ∷ []) q [] ≡ row = ap (λ (n : ℕ). get_or (ends ++ row ∷ []) n []) (omega (arith, len, same)) ∙ get_or-append-add ends (row ∷ []) 0 [] in
    ap (λ (r : List ℕ). lane r j) at ∙ is

pub pushed_before : (ends : List (List ℕ)) (row : List ℕ) (j q : ℕ) → q < length ends → fails_at (ends ++ row ∷ []) j q ≡ fails_at ends j q
pushed_before ends row j q lt = ap (λ (r : List ℕ). lane r j) (get_or_append_left ends (row ∷ []) [] q lt)

-- a row in place of another
pub set_at : (ends : List (List ℕ)) (row : List ℕ) (j k q : ℕ) (b : Bool) → k < length ends → lane row j ≡ b → q ≡ k → fails_at (set ends k row) j q ≡ b
set_at ends row j k q b lt is same = ap (λ (n : ℕ). fails_at (set ends k row) j n) same ∙ ap (λ (r : List ℕ). lane r j) (get_or-set_same ends k row [] lt) ∙ is

pub set_other : (ends : List (List ℕ)) (row : List ℕ) (j k q : ℕ) → q ≢ k → fails_at (set ends k row) j q ≡ fails_at ends j q
set_other ends row j k q other = ap (λ (r : List ℕ). lane r j) (get_or-set_other ends k q row [] other)

-- no point is behind the end
pub from_end : (rows : List PointRow) (j : ℕ) → any_from rows j (length rows) ≡ false
from_end rows j =
    let none : length rows - length rows ≡ 0 = omega arith in
    ap (λ (m : ℕ). list_any (is_failing_at rows j) (range_with_len (length rows) m)) none
