-- Rows by slots, as the list of the rows of all nets.
use Rattle.std.proofs.Common.{◌≡◌, ◌≢◌, ℕ, zero, suc, ◌<◌, false, List, [], ◌∷◌, ◌++◌, length, get_or, set, replicate, refl, sym, ap, ◌∙◌, inl, inr, arith}
use Rattle.std.proofs.lemmas.Bool.{cases_eq}
use Rattle.std.proofs.lemmas.List.{get_or-map, get_or-set_same, get_or-set_other, length-set, length-map, length_push, get_or_push, get_or_append_left, ext_get_or}
use Rattle.lane_rows.specs.Lanes.{lane}
use Rattle.explained_lanes.specs.Slots.{row_of, rows_at, AreSlots}
use Rattle.explained_lanes.specs.Traces.{lane_at}

pub own_row : (rows : List (List ℕ)) (slots : List ℕ) (n : ℕ) → n < length slots → get_or (rows_at rows slots) n [] ≡ row_of rows (get_or slots n 0)
own_row rows slots n lt = get_or-map (row_of rows) slots n 0 [] lt

-- ---- no lanes

zero_slots : (slots : List ℕ) (count : ℕ) → slots ≡ replicate count 0 → (n : ℕ) → get_or slots n 0 ≡ 0
zero_slots slots count is n = ap (λ (xs : List ℕ). get_or xs n 0) is ∙ go count n
  where
    go : (k m : ℕ) → get_or {A = ℕ} (replicate k 0) m 0 ≡ 0
    go zero m = refl
    go (suc k) zero = refl
    go (suc k) (suc m) = go k m

module _ (slots : List ℕ) (rows : List (List ℕ)) (count : ℕ) (is : slots ≡ replicate count 0) (row : List ℕ) (one : rows ≡ row ∷ []) (none : (j : ℕ) → j < 512 → lane row j ≡ false) where
  pub blank_slots : AreSlots slots rows
  blank_slots = rw one (record {
    blank = (omega arith, none);
    inside = λ n lt. omega (arith, zero_slots slots count is n);
    own = λ n m ln lm e. inr (zero_slots slots count is n);
  })

  pub blank_lanes : (j n : ℕ) → j < 512 → n < length slots → lane_at (rows_at rows slots) j n ≡ false
  blank_lanes j n lj ln = ap (λ (r : List ℕ). lane r j) (own_row rows slots n ln ∙ ap (row_of rows) (zero_slots slots count is n) ∙ ap (λ (rs : List (List ℕ)). row_of rs 0) one) ∙ none j lj

module _ (slots : List ℕ) (rows : List (List ℕ)) (sound : AreSlots slots rows) (n : ℕ) (in_range : n < length slots) where
  pub blank_there : get_or slots n 0 ≡ 0 → (j : ℕ) → j < 512 → lane_at (rows_at rows slots) j n ≡ false
  blank_there zero_slot j lj = ap (λ (r : List ℕ). lane r j) (own_row rows slots n in_range ∙ ap (row_of rows) zero_slot) ∙ sound.blank.1 j lj

  -- ---- a net that has no slot yet

  module _ (row : List ℕ) where
    abbrev more : List (List ℕ)
    more = rows ++ row ∷ []

    abbrev named : List ℕ
    named = set slots n (length rows)

    stays : (k : ℕ) → k < length rows → row_of more k ≡ row_of rows k
    stays k lt = get_or_append_left rows (row ∷ []) [] k lt

    pub slots_stay : AreSlots slots more
    slots_stay = record {
      blank = (omega (arith, length_push rows row), λ j lj. ap (λ (r : List ℕ). lane r j) (stays 0 sound.blank.0) ∙ sound.blank.1 j lj);
      inside = λ m lm. omega (arith, length_push rows row, sound.inside m lm);
      own = sound.own;
    }

    pub slots_more : AreSlots named more
    slots_more = record {
      blank = slots_stay.blank;
      inside = λ m lm. elim (cases_eq m n) [
        | inl same ↦ omega (arith, length_push rows row, at_new m same)
        | inr other ↦ omega (arith, length_push rows row, at_old m other, sound.inside m (within m lm))
      ];
      own = λ m k lm lk e. elim (cases_eq m n) [
        | inl first ↦ elim (cases_eq k n) [
          | inl second ↦ inl (first ∙ sym second)
          | inr other ↦ absurd (omega (arith, e, at_new m first, at_old k other, sound.inside k (within k lk)))
        ]
        | inr other ↦ elim (cases_eq k n) [
          | inl second ↦ absurd (omega (arith, e, at_new k second, at_old m other, sound.inside m (within m lm)))
          | inr apart ↦ elim (sound.own m k (within m lm) (within k lk) (sym (at_old m other) ∙ e ∙ at_old k apart)) [
            | inl same ↦ inl same
            | inr shared ↦ inr (at_old m other ∙ shared)
          ]
        ]
      ];
    }
      where
        within : (m : ℕ) → m < length named → m < length slots
        within m lm = omega (arith, lm, length-set slots n (length rows))

        at_new : (m : ℕ) → m ≡ n → get_or named m 0 ≡ length rows
        at_new m same = ap (λ (k : ℕ). get_or named k 0) same ∙ get_or-set_same slots n (length rows) 0 in_range

        at_old : (m : ℕ) → m ≢ n → get_or named m 0 ≡ get_or slots m 0
        at_old m other = get_or-set_other slots n m (length rows) 0 other

    pub rows_stay : rows_at more slots ≡ rows_at rows slots
    rows_stay = ext_get_or [] (rows_at more slots) (rows_at rows slots) (length-map slots (row_of more) ∙ sym (length-map slots (row_of rows)))
        (λ m inside.
        let lm : m < length slots = omega (arith, inside, length-map slots (row_of more)) in
        own_row more slots m lm ∙ stays (get_or slots m 0) (sound.inside m lm) ∙ sym (own_row rows slots m lm))

    pub rows_more : rows_at more named ≡ set (rows_at rows slots) n row
    rows_more = ext_get_or [] (rows_at more named) (set (rows_at rows slots) n row)
        (length-map named (row_of more) ∙ length-set slots n (length rows) ∙ sym (length-set (rows_at rows slots) n row ∙ length-map slots (row_of rows)))
        (λ m inside.
        let ln : m < length named = omega (arith, inside, length-map named (row_of more)) in
        let lm : m < length slots = omega (arith, ln, length-set slots n (length rows)) in
        own_row more named m ln ∙ elim (cases_eq m n) [
          | inl same ↦
              ap (row_of more) (ap (λ (k : ℕ). get_or named k 0) same ∙ get_or-set_same slots n (length rows) 0 in_range)
              ∙ get_or_push rows row [] (length rows) refl
              ∙ sym (ap (λ (k : ℕ). get_or (set (rows_at rows slots) n row) k []) same ∙ get_or-set_same (rows_at rows slots) n row [] (omega (arith, in_range, length-map slots (row_of rows))))
          | inr other ↦
              ap (row_of more) (get_or-set_other slots n m (length rows) 0 other) ∙ stays (get_or slots m 0) (sound.inside m lm)
              ∙ sym (get_or-set_other (rows_at rows slots) n m row [] other ∙ own_row rows slots m lm)
        ])

  -- ---- a net that has a slot

  module _ (slot : ℕ) (is : slot ≡ get_or slots n 0) (some : slot ≢ 0) (row : List ℕ) where
    pub place_inside : slot < length rows
    place_inside = omega (arith, is, sound.inside n in_range)

    elsewhere : (m : ℕ) → m < length slots → m ≢ n → get_or slots m 0 ≢ slot
    elsewhere m lm other e = elim (sound.own m n lm in_range (e ∙ is)) [ inl same ↦ other same | inr shared ↦ some (sym e ∙ shared) ]

    pub slots_kept : AreSlots slots (set rows slot row)
    slots_kept = record {
      blank = (omega (arith, length-set rows slot row, sound.blank.0), λ j lj. ap (λ (r : List ℕ). lane r j) (get_or-set_other rows slot 0 row [] (λ e. some (sym e))) ∙ sound.blank.1 j lj);
      inside = λ m lm. omega (arith, length-set rows slot row, sound.inside m lm);
      own = sound.own;
    }

    pub rows_set : rows_at (set rows slot row) slots ≡ set (rows_at rows slots) n row
    rows_set = ext_get_or [] (rows_at (set rows slot row) slots) (set (rows_at rows slots) n row)
        (length-map slots (row_of (set rows slot row)) ∙ sym (length-set (rows_at rows slots) n row ∙ length-map slots (row_of rows)))
        (λ m inside.
        let lm : m < length slots = omega (arith, inside, length-map slots (row_of (set rows slot row))) in
        own_row (set rows slot row) slots m lm ∙ elim (cases_eq m n) [
          | inl same ↦
              ap (row_of (set rows slot row)) (ap (λ (k : ℕ). get_or slots k 0) same ∙ sym is)
              ∙ get_or-set_same rows slot row [] place_inside
              ∙ sym (ap (λ (k : ℕ). get_or (set (rows_at rows slots) n row) k []) same ∙ get_or-set_same (rows_at rows slots) n row [] (omega (arith, in_range, length-map slots (row_of rows))))
          | inr other ↦
              get_or-set_other rows slot (get_or slots m 0) row [] (elsewhere m lm other)
              ∙ sym (get_or-set_other (rows_at rows slots) n m row [] other ∙ own_row rows slots m lm)
        ])
