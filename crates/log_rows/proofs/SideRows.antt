-- Rows of lanes, made word by word and point by point.
use Rattle.std.proofs.Common.{◌≡◌, ℕ, ◌+◌, ◌*◌, ◌/◌, ◌%◌, ◌<◌, Bool, eqb, ltb, ◌&&◌, List, [], ◌∷◌, ◌++◌, length, get_or, set, refl, ap, ◌∙◌, inl, inr, arith}
use Rattle.std.specs.Int.{bit_at}
use Rattle.std.proofs.lemmas.Bool.{cases_eq, cases_Bool, ltb-true}
use Rattle.std.proofs.lemmas.List.{get_or-set_same, get_or-set_other, get_or_append_left, get_or-append-add}
use Rattle.scan_model.specs.declared.values.Tri.{Tri}
use Rattle.scan_model.specs.declared.logs.LogFacts.{LogFacts}
use Rattle.scan_model.specs.ChainShift.{value_at}
use Rattle.scan_model.specs.ScanTest.{ScanTest, points_of}
use Rattle.scan_model.specs.Response.{expected_rows}
use Rattle.scan_model.specs.Coverage.{bit_of}
use Rattle.scan_model.specs.Classes.{class_of}
use Rattle.scan_model.proofs.ExpectedRows.{expected_row}
use Rattle.bit_rows.specs.Lanes.{lane, pattern_of}
use Rattle.log_rows.specs.declared.point_row.PointRow.{PointRow}
use Rattle.log_rows.specs.declared.side.Side.{Side}
use Rattle.log_rows.specs.declared.side.Side.TheVariants.{Failing, Passing}
use Rattle.log_rows.specs.PointRows.{is_on, is_on_at, counts_on, ArePointRows}
use Rattle.log_rows.specs.PlaceRows.{ArePlaceRows}

-- one word more
pub lanes_more : (f : ℕ → Bool) (ws : List ℕ) (at x : ℕ) → at < length ws → ((j : ℕ) → j < 64 * at → lane ws j ≡ f j) → ((i : ℕ) → i < 64 → eqb (bit_at x i) 1 ≡ f (64 * at + i))
    → (j : ℕ) → j < 64 * (at + 1) → lane (set ws at x) j ≡ f j
lanes_more f ws at x inside before here j lt = elim (cases_eq (j / 64) at) [
  | inl near ↦
      ap (λ (w : ℕ). eqb (bit_at (get_or (set ws at x) w 0) (j % 64)) 1) near
      ∙ ap (λ (n : ℕ). eqb (bit_at n (j % 64)) 1) (get_or-set_same ws at x 0 inside)
      ∙ here (j % 64) (omega arith)
      ∙ ap f (omega arith)
  | inr far ↦ ap (λ (n : ℕ). eqb (bit_at n (j % 64)) 1) (get_or-set_other ws at (j / 64) x 0 far) ∙ before j (omega arith)
]

-- what is expected of a pattern is a row
on_side : (t : ScanTest) (logs : List LogFacts) (side : Side) (w k : ℕ) → is_on_at logs (expected_rows t) (length t.patterns) side w k ≡ (ltb w (length t.patterns) && counts_on t logs side (bit_of w k))
on_side t logs side w k = elim (cases_Bool (ltb w (length t.patterns))) [
  | inl within ↦ rw within (ap (λ (row : List Tri). is_on side (class_of logs (value_at row k) (bit_of w k))) (expected_row t w [] (ltb-true w (length t.patterns) within)))
  | inr past ↦ rw past refl
]

pub on_side_of : (t : ScanTest) (logs : List LogFacts) (rows : List (List Tri)) (patterns : ℕ) (side : Side) (w k : ℕ) → rows ≡ expected_rows t → patterns ≡ length t.patterns
    → is_on_at logs rows patterns side w k ≡ (ltb w (length t.patterns) && counts_on t logs side (bit_of w k))
on_side_of t logs rows patterns side w k is_rows is_patterns = rw (is_rows, is_patterns) (on_side t logs side w k)

-- one item more
pub each_pushed : {X : Type 0} (P : ℕ → X → Type 0) (k : ℕ) (old new : List X) (x d : X) → new ≡ old ++ x ∷ [] → length old ≡ k → ((i : ℕ) → i < k → P i (get_or old i d)) → P k x
    → (i : ℕ) → i < k + 1 → P i (get_or new i d)
each_pushed P k old new x d pushed len each here i lt = rw pushed (elim (cases_eq i k) [
  | inl same ↦
      let last : get_or (old ++ x ∷ []) k d ≡ x = ap (λ n. get_or (old ++ x ∷ []) n d) (omega (arith, len)) ∙ get_or-append-add old (x ∷ []) 0 d in
      rw (same, last) here
  | inr other ↦ rw (get_or_append_left old (x ∷ []) d i (omega (arith, len, other))) (each i (omega (arith, other)))
])

-- rows of a test's points, by its expected values
pub point_rows : (t : ScanTest) (logs : List LogFacts) (expected : List (List Tri)) (patterns places b : ℕ) (rows : List PointRow) → expected ≡ expected_rows t → patterns ≡ length t.patterns → places ≡ length (points_of t)
    → ArePlaceRows logs expected patterns places b rows → ArePointRows t logs b rows
point_rows t logs expected patterns places b rows is_expected is_patterns is_places are = record {
  len = are.len ∙ is_places;
  each = λ k lt.
      let row = are.each k lt in
      record {
        failing = λ j below. row.failing j below ∙ on_side_of t logs expected patterns Failing (pattern_of b j) k is_expected is_patterns;
        passing = λ j below. row.passing j below ∙ on_side_of t logs expected patterns Passing (pattern_of b j) k is_expected is_patterns;
      };
}
