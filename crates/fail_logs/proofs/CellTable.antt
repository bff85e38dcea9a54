-- Rows with the places of cells.
use Rattle.std.proofs.Common.{◌≡◌, ◌≢◌, ℕ, zero, suc, ◌+◌, ◌<◌, List, [], ◌∷◌, length, get_or, set, refl, sym, ap, ◌∙◌, inl, inr, arith}
use Rattle.std.proofs.lemmas.Bool.{cases_eq}
use Rattle.std.proofs.lemmas.List.{get_or-set_same, get_or-set_other, length-set}
use Rattle.scan_model.specs.declared.parts.Point.{Point}
use Rattle.scan_model.specs.declared.parts.Point.TheVariants.{Output, Cell}
use Rattle.fail_logs.specs.BitNumbers.{place_in}
use Rattle.fail_logs.specs.Places.{with_place, places_in}

-- the rows have a place for the cell
pub record HasCell (rows : List (List ℕ)) (h i : ℕ) : Type 0 where
  pub row : h < length rows
  pub pos : i < length (get_or rows h [])

written_row : (rows : List (List ℕ)) (h : ℕ) (row : List ℕ) → h < length rows → get_or (set rows h row) h [] ≡ row
written_row rows h row lt = get_or-set_same rows h row [] lt

other_row : (rows : List (List ℕ)) (g h : ℕ) (row : List ℕ) → h ≢ g → get_or (set rows g row) h [] ≡ get_or rows h []
other_row rows g h row differs = get_or-set_other rows g h row [] differs

with_place_here : (rows : List (List ℕ)) (h i k : ℕ) → HasCell rows h i → place_in (with_place rows (Cell h i) k) h i ≡ k
with_place_here rows h i k has = ap (λ row. get_or row i 0) (written_row rows h (set (get_or rows h []) i k) has.row) ∙ get_or-set_same (get_or rows h []) i k 0 has.pos

with_place_other : (rows : List (List ℕ)) (h i k : ℕ) (s : Point) → HasCell rows h i → s ≢ Cell h i → place_in (with_place rows s k) h i ≡ place_in rows h i
with_place_other rows h i k (Output j) has other = refl
with_place_other rows h i k (Cell g j) has other = elim (cases_eq g h) [
  | inl chain ↦
      let differs : i ≢ j = λ same. other (cc) in
      ap (λ c. place_in (with_place rows (Cell c j) k) h i) chain ∙ ap (λ row. get_or row i 0) (written_row rows h (set (get_or rows h []) j k) has.row) ∙ get_or-set_other (get_or rows h []) j i k 0 differs
  | inr differs ↦ ap (λ row. get_or row i 0) (other_row rows g h (set (get_or rows g []) j k) (λ same. differs (sym same)))
]

with_place_keeps : (rows : List (List ℕ)) (h i k : ℕ) (s : Point) → HasCell rows h i → HasCell (with_place rows s k) h i
with_place_keeps rows h i k (Output j) has = has
with_place_keeps rows h i k (Cell g j) has = record {
  row = omega (arith, length-set rows g (set (get_or rows g []) j k), has.row);
  pos = elim (cases_eq g h) [
    | inl chain ↦
        let row : get_or (set rows g (set (get_or rows g []) j k)) h [] ≡ set (get_or rows h []) j k = ap (λ c. get_or (set rows c (set (get_or rows c []) j k)) h []) chain ∙ written_row rows h (set (get_or rows h []) j k) has.row in
        rw (row, length-set (get_or rows h []) j k) has.pos
    | inr differs ↦ rw (other_row rows g h (set (get_or rows g []) j k) (λ same. differs (sym same))) has.pos
  ];
}

-- points that are not the cell leave its place
place_stays : (ss : List Point) (rows : List (List ℕ)) (k h i : ℕ) → HasCell rows h i → ((j : ℕ) → j < length ss → get_or ss j (Output 0) ≢ Cell h i) → place_in (places_in rows k ss) h i ≡ place_in rows h i
place_stays [] rows k h i has none = refl
place_stays (s ∷ ss) rows k h i has none =
    place_stays ss (with_place rows s k) (k + 1) h i (with_place_keeps rows h i k s has) (λ j lt. none (suc j) (omega arith)) ∙ with_place_other rows h i k s has (none 0 (omega arith))

-- where no point stands twice, each cell's place is written
pub place_is : (ss : List Point) (rows : List (List ℕ)) (k h i m : ℕ) → HasCell rows h i → m < length ss → get_or ss m (Output 0) ≡ Cell h i
    → ((a b : ℕ) → a < length ss → b < length ss → get_or ss a (Output 0) ≡ get_or ss b (Output 0) → a ≡ b) → place_in (places_in rows k ss) h i ≡ k + m
place_is [] rows k h i m has lt at differ = absurd (omega arith)
place_is (s ∷ ss) rows k h i zero has lt at differ =
    let later : (j : ℕ) → j < length ss → get_or ss j (Output 0) ≢ Cell h i = λ j j_lt same. let again : suc j ≡ 0 = differ (suc j) 0 (omega arith) (omega arith) (same ∙ sym at) in absurd (omega arith) in
    let here : place_in (with_place rows s k) h i ≡ k = ap (λ x. place_in (with_place rows x k) h i) at ∙ with_place_here rows h i k has in
    let sum : k ≡ k + 0 = omega arith in
    place_stays ss (with_place rows s k) (k + 1) h i (with_place_keeps rows h i k s has) later ∙ here ∙ sum
place_is (s ∷ ss) rows k h i (suc m) has lt at differ =
    let sum : (k + 1) + m ≡ k + suc m = omega arith in
    place_is ss (with_place rows s k) (k + 1) h i m (with_place_keeps rows h i k s has) (omega arith) at (λ a b a_lt b_lt same. let e : suc a ≡ suc b = differ (suc a) (suc b) (omega arith) (omega arith) same in omega arith) ∙ sum
