-- Answers that tell whether some lane is of a kind, and rows that cover the lanes of a kind.
use Rattle.std.proofs.Common.{◌≡◌, ℕ, ◌<◌, Bool, true, false, not, ◌||◌, List, refl, sym, ap, subst, ◌∙◌, inl, inr}
use Rattle.std.proofs.lemmas.Bool.{cases_Bool, both_ways, or_cases, or_left, or_right}
use Rattle.lane_rows.specs.Lanes.{lane}
use Rattle.explained_lanes.specs.Fails.{Tells, Covers}
use Rattle.explained_lanes.proofs.Ranges.{search_below}

-- ---- answers on lanes

pub tells_or : (a b r : Bool) (p q : ℕ → Bool) → Tells a p → Tells b q → r ≡ (a || b) → Tells r (λ j. p j || q j)
tells_or a b r p q left right is = record {
  found = λ e. elim (or_cases a b (sym is ∙ e)) [
    | inl first ↦ let j = left.found first in (j.0, j.1, or_left (p j.0) (q j.0) j.2)
    | inr second ↦ let j = right.found second in (j.0, j.1, or_right (p j.0) (q j.0) j.2)
  ];
  all = λ j lt e. is ∙ (elim (or_cases (p j) (q j) e) [
    | inl first ↦ or_left a b (left.all j lt first)
    | inr second ↦ or_right a b (right.all j lt second)
  ]);
}

pub tells_same : (a : Bool) (p q : ℕ → Bool) → ((j : ℕ) → j < 512 → p j ≡ q j) → Tells a p → Tells a q
tells_same a p q same tells = record {
  found = λ e. let j = tells.found e in (j.0, j.1, sym (same j.0 j.1) ∙ j.2);
  all = λ j lt e. tells.all j lt (same j lt ∙ e);
}

pub tells_none : (p : ℕ → Bool) → ((j : ℕ) → j < 512 → p j ≡ false) → Tells false p
tells_none p none = record { found = λ e. absurd cc; all = λ j lt e. absurd (both_ways (p j) (none j lt) e) }

-- a lane of a row that isn't empty
pub some_lane : (row : List ℕ) (empty : Bool) → empty ≡ false → (((j : ℕ) → j < 512 → lane row j ≡ false) → empty ≡ true) → (j : ℕ) × (j < 512) × (lane row j ≡ true)
some_lane row empty filled some = elim (search_below (lane row) 512) [
  | inl found ↦ found
  | inr none ↦ absurd (both_ways empty filled (some none))
]

pub tells_row : (row : List ℕ) (empty r : Bool) → (empty ≡ true → (j : ℕ) → j < 512 → lane row j ≡ false) → (((j : ℕ) → j < 512 → lane row j ≡ false) → empty ≡ true) → r ≡ not empty → Tells r (lane row)
tells_row row empty r none some is = elim (cases_Bool empty) [
  | inl yes' ↦ subst (λ (b : Bool). Tells b (lane row)) (sym (is ∙ ap not yes')) (tells_none (lane row) (none yes'))
  | inr no' ↦ subst (λ (b : Bool). Tells b (lane row)) (sym (is ∙ ap not no')) (record { found = λ e. some_lane row empty no' some; all = λ j lt e. refl })
]

-- ---- rows that cover lanes

pub covers_exact : (row : List ℕ) (p : ℕ → Bool) → ((j : ℕ) → j < 512 → lane row j ≡ p j) → Covers row p
covers_exact row p same = record {
  found = λ j lt e. (j, lt, sym (same j lt) ∙ e);
  all = λ j lt e. same j lt ∙ e;
}

pub covers_all : (row : List ℕ) (answer : Bool) (p : ℕ → Bool) → ((j : ℕ) → j < 512 → lane row j ≡ answer) → Tells answer p → Covers row p
covers_all row answer p is tells = record {
  found = λ j lt e. tells.found (sym (is j lt) ∙ e);
  all = λ j lt e. is j lt ∙ tells.all j lt e;
}

pub tells_covers : (row : List ℕ) (empty r : Bool) (p : ℕ → Bool) → Covers row p → (empty ≡ true → (j : ℕ) → j < 512 → lane row j ≡ false) → (((j : ℕ) → j < 512 → lane row j ≡ false) → empty ≡ true) → r ≡ not empty → Tells r p
tells_covers row empty r p covers none some is =
    let tells = tells_row row empty r none some is in
    record {
      found = λ e. let j = tells.found e in covers.found j.0 j.1 j.2;
      all = λ j lt e. tells.all j lt (covers.all j lt e);
    }
