-- Slots, and the lists that they name.
use Rattle.std.proofs.Common.{◌≡◌, ◌≢◌, ℕ, zero, suc, ◌+◌, ◌-◌, ◌/◌, ◌%◌, Bor, Option, unwrap_or, ◌<◌, ◌≤◌, ◌^◌, Bool, true, false, eqb, cond, ◌||◌, List, [], ◌∷◌, ◌++◌, length, get_or, set, take, Some, None, refl, sym, ap, ◌∙◌, inl, inr, arith}
use Rattle.std.specs.Prelude.{Contains}
use Rattle.std.specs.List.{list_any, IsDistinct}
use Rattle.std.proofs.lemmas.Bool.{cases_eq, cases_lt, eq-eqb, ne_eqb, eqb-true}
use Rattle.std.proofs.lemmas.List.{get_or-set_same, get_or-set_other, length-set, length-map, length_push, get_or_push, get_or_append_left, ext_get_or, get_or_default, get_or_past, take_more}
use Rattle.std.proofs.lemmas.List.Folds.{list_any-append}
use Rattle.std.proofs.lemmas.Map.Keys.{IsDistinct-from_apart}
use Rattle.std.proofs.lemmas.Map.Steps.{length-le_from_distinct_below}
use Rattle.scan_model.proofs.FanSweeps.{any_found, any_among}
use Rattle.lane_rows.specs.Planes.{Planes}
use Rattle.lane_rows.proofs.Once.{distinct_from}
use Rattle.packed_sim.specs.Rows.{no_row, row_at, rows_at, row_now, slots_of, lent_at, IsClean, at_home, IsDense, IsLaid, AreFound}

-- ---- the row of a slot

pub own_at : (rows : List Planes) (slots : List ℕ) (n : ℕ) → get_or (rows_at rows slots) n None ≡ row_at rows (get_or slots n 0)
own_at rows [] n = refl
own_at rows (s ∷ slots) zero = refl
own_at rows (s ∷ slots) (suc n) = own_at rows slots n

row_of_slot : (rows : List Planes) (s i : ℕ) → s ≡ i + 1 → row_at rows s ≡ Some (get_or rows i no_row)
row_of_slot rows zero i is = absurd (omega arith)
row_of_slot rows (suc j) i is = let e : j ≡ i = omega arith in ap (λ (k : ℕ). Some (get_or rows k no_row)) e

row_stays : (rows : List Planes) (r : Planes) (s : ℕ) → s ≤ length rows → row_at (rows ++ r ∷ []) s ≡ row_at rows s
row_stays rows r zero le = refl
row_stays rows r (suc i) le = ap (λ (x : Planes). Some x) (get_or_append_left rows (r ∷ []) no_row i (omega arith))

row_elsewhere : (rows : List Planes) (r : Planes) (s i : ℕ) → s ≢ i + 1 → row_at (set rows i r) s ≡ row_at rows s
row_elsewhere rows r zero i other = refl
row_elsewhere rows r (suc j) i other =
    let apart : j ≢ i = λ e. other (omega arith) in
    ap (λ (x : Planes). Some x) (get_or-set_other rows i j r no_row apart)

pub clean_rows : (rows : List Planes) (slots : List ℕ) → ((n : ℕ) → get_or slots n 0 ≡ 0) → IsClean (rows_at rows slots)
clean_rows rows slots blank n = own_at rows slots n ∙ ap (row_at rows) (blank n)

module _ (slots nets : List ℕ) (rows : List Planes) (a b : ℕ) (dense : IsDense slots nets rows a b) (n : ℕ) (in_range : n < length slots) where
  -- ---- a net that has no slot yet

  module _ (free : get_or slots n 0 ≡ 0) (r : Planes) where
    abbrev more : List ℕ
    more = nets ++ n ∷ []

    listed : (i : ℕ) → i < length nets → get_or more i 0 ≡ get_or nets i 0
    listed i lt = get_or_append_left nets (n ∷ []) 0 i lt

    last : (i : ℕ) → i ≡ length nets → get_or more i 0 ≡ n
    last i is = ap (λ (k : ℕ). get_or more k 0) is ∙ get_or_push nets n 0 (length nets) refl

    not_listed : (i : ℕ) → i < length nets → get_or nets i 0 ≢ n
    not_listed i lt same =
        let zero_slot : get_or slots (get_or nets i 0) 0 ≡ 0 = ap (λ (k : ℕ). get_or slots k 0) same ∙ free in
        omega (arith, (dense.slot_of i lt).1, zero_slot)

    apart : (i j : ℕ) → i < j → j < length more → get_or more i 0 ≢ get_or more j 0
    apart i j lt inside same =
        let i_in : i < length nets = omega (arith, length_push nets n) in
        elim (cases_lt j (length nets)) [
          | inl j_in ↦
              let nets_same : get_or nets i 0 ≡ get_or nets j 0 = sym (listed i i_in) ∙ same ∙ listed j j_in in
              omega (arith, (dense.slot_of i i_in).1, (dense.slot_of j j_in).1, ap (λ (k : ℕ). get_or slots k 0) nets_same)
          | inr at_end ↦ not_listed i i_in (sym (listed i i_in) ∙ same ∙ last j (omega (arith, length_push nets n)))
        ]

    in_slots : (i : ℕ) → i < length more → get_or more i 0 < length slots
    in_slots i inside = elim (cases_lt i (length nets)) [
      | inl i_in ↦ rw (listed i i_in) (dense.slot_of i i_in).0
      | inr at_end ↦ rw (last i (omega (arith, length_push nets n))) in_range
    ]

    pub room_left : length nets < length slots
    room_left =
        let distinct : IsDistinct eqb more = IsDistinct-from_apart eqb more (λ i j d lt inside. ne_eqb (get_or more i d) (get_or more j d) (λ e.
        apart i j lt inside (get_or_default more i 0 d (omega arith) ∙ e ∙ get_or_default more j d 0 inside))) in
        let below : (q : ℕ) → list_any (eqb q) more ≡ true → q < length slots = λ q some.
        let found = any_found (eqb q) more some in
        let at = found.1 in
        let is : get_or more at.0 0 ≡ q = get_or_default more at.0 0 found.0 at.1 ∙ at.2 ∙ sym (eqb-true q found.0 found.2) in
        omega (arith, in_slots at.0 at.1, is) in
        omega (arith, length-le_from_distinct_below more (length slots) distinct below, length_push nets n)

    abbrev named : List ℕ
    named = set slots n (length nets + 1)

    pub dense_push : IsDense named more (rows ++ r ∷ []) a b
    dense_push = record {
      fits = omega (arith, dense.fits, length-set slots n (length nets + 1));
      one_each = length_push rows r ∙ ap (λ (k : ℕ). k + 1) dense.one_each ∙ sym (length_push nets n);
      slot_of = λ i inside. (
        omega (arith, in_slots i inside, length-set slots n (length nets + 1)),
        elim (cases_lt i (length nets)) [
          | inl i_in ↦ ap (λ (k : ℕ). get_or named k 0) (listed i i_in) ∙ get_or-set_other slots n (get_or nets i 0) (length nets + 1) 0 (not_listed i i_in) ∙ (dense.slot_of i i_in).1
          | inr at_end ↦
              let is : i ≡ length nets = omega (arith, length_push nets n) in
              ap (λ (k : ℕ). get_or named k 0) (last i is) ∙ get_or-set_same slots n (length nets + 1) 0 in_range ∙ ap (λ (k : ℕ). k + 1) (sym is)
        ],
      );
      net_of = λ m inside some. elim (cases_eq m n) [
        | inl same ↦
            let slot : get_or named m 0 ≡ length nets + 1 = ap (λ (k : ℕ). get_or named k 0) same ∙ get_or-set_same slots n (length nets + 1) 0 in_range in
            (omega (arith, slot, length_push nets n), last (get_or named m 0 - 1) (omega (arith, slot)) ∙ sym same)
        | inr other ↦
            let slot : get_or named m 0 ≡ get_or slots m 0 = get_or-set_other slots n m (length nets + 1) 0 other in
            let before = dense.net_of m (omega (arith, length-set slots n (length nets + 1))) (omega (arith, slot)) in
            (omega (arith, slot, before.0, length_push nets n), ap (λ (k : ℕ). get_or more (k - 1) 0) slot ∙ listed (get_or slots m 0 - 1) (omega (arith, slot, before.0)) ∙ before.1)
      ];
      room_of_nets = omega (arith, dense.room_of_nets, length-set slots n (length nets + 1));
      room_of_rows = omega (arith, dense.room_of_rows, length-set slots n (length nets + 1));
    }

    pub rows_push : rows_at (rows ++ r ∷ []) named ≡ set (rows_at rows slots) n (Some r)
    rows_push = ext_get_or None (rows_at (rows ++ r ∷ []) named) (set (rows_at rows slots) n (Some r))
        (length-map named (row_at (rows ++ r ∷ [])) ∙ length-set slots n (length nets + 1) ∙ sym (length-set (rows_at rows slots) n (Some r) ∙ length-map slots (row_at rows)))
        (λ m inside. own_at (rows ++ r ∷ []) named m ∙ elim (cases_eq m n) [
          | inl same ↦
              let slot : get_or named m 0 ≡ length nets + 1 = ap (λ (k : ℕ). get_or named k 0) same ∙ get_or-set_same slots n (length nets + 1) 0 in_range in
              row_of_slot (rows ++ r ∷ []) (get_or named m 0) (length nets) slot
              ∙ ap (λ (x : Planes). Some x) (get_or_push rows r no_row (length nets) dense.one_each)
              ∙ sym (ap (λ (k : ℕ). get_or (set (rows_at rows slots) n (Some r)) k None) same ∙ get_or-set_same (rows_at rows slots) n (Some r) None (omega (arith, length-map slots (row_at rows))))
          | inr other ↦
              ap (row_at (rows ++ r ∷ [])) (get_or-set_other slots n m (length nets + 1) 0 other)
              ∙ row_stays rows r (get_or slots m 0) (slot_within m)
              ∙ sym (get_or-set_other (rows_at rows slots) n m (Some r) None other ∙ own_at rows slots m)
        ])
      where
        slot_within : (m : ℕ) → get_or slots m 0 ≤ length rows
        slot_within m = elim (cases_lt m (length slots)) [
          | inl inside ↦ elim (cases_lt 0 (get_or slots m 0)) [
            | inl some ↦ omega (arith, (dense.net_of m inside some).0, dense.one_each)
            | inr none ↦ omega arith
          ]
          | inr outside ↦ omega (arith, get_or_past slots m 0 outside)
        ]

  -- ---- a net that has a slot

  module _ (s : ℕ) (is : s ≡ get_or slots n 0) (some : s ≢ 0) (r : Planes) where
    pub place_inside : s - 1 < length rows
    place_inside = omega (arith, (dense.net_of n in_range (positive s some is)).0, dense.one_each, nonzero s some)
      where
        nonzero : (x : ℕ) → x ≢ 0 → 0 < x
        nonzero zero ne = absurd (ne refl)
        nonzero (suc x) ne = omega arith

        positive : (x : ℕ) → x ≢ 0 → x ≡ get_or slots n 0 → 0 < get_or slots n 0
        positive x ne e = omega (arith, nonzero x ne)

    pub rows_set : rows_at (set rows (s - 1) r) slots ≡ set (rows_at rows slots) n (Some r)
    rows_set = ext_get_or None (rows_at (set rows (s - 1) r) slots) (set (rows_at rows slots) n (Some r))
        (length-map slots (row_at (set rows (s - 1) r)) ∙ sym (length-set (rows_at rows slots) n (Some r) ∙ length-map slots (row_at rows)))
        (λ m inside. own_at (set rows (s - 1) r) slots m ∙ elim (cases_eq m n) [
          | inl same ↦
              row_of_slot (set rows (s - 1) r) (get_or slots m 0) (s - 1) (ap (λ (k : ℕ). get_or slots k 0) same ∙ sym is ∙ back)
              ∙ ap (λ (x : Planes). Some x) (get_or-set_same rows (s - 1) r no_row place_inside)
              ∙ sym (ap (λ (k : ℕ). get_or (set (rows_at rows slots) n (Some r)) k None) same ∙ get_or-set_same (rows_at rows slots) n (Some r) None (omega (arith, length-map slots (row_at rows))))
          | inr other ↦
              row_elsewhere rows r (get_or slots m 0) (s - 1) (λ e. other (one_net m (omega (arith, inside, length-map slots (row_at (set rows (s - 1) r)))) (e ∙ sym back)))
              ∙ sym (get_or-set_other (rows_at rows slots) n m (Some r) None other ∙ own_at rows slots m)
        ])
      where
        nonzero : (x : ℕ) → x ≢ 0 → 0 < x
        nonzero zero ne = absurd (ne refl)
        nonzero (suc x) ne = omega arith

        back : s ≡ (s - 1) + 1
        back = omega (arith, nonzero s some)

        one_net : (m : ℕ) → m < length slots → get_or slots m 0 ≡ s → m ≡ n
        one_net m inside e =
            let first = dense.net_of m inside (omega (arith, nonzero s some)) in
            let second = dense.net_of n in_range (omega (arith, nonzero s some)) in
            sym first.1 ∙ ap (λ (k : ℕ). get_or nets (k - 1) 0) (e ∙ is) ∙ second.1

-- ---- places and their slots

pub slot_at : (places : List ℕ) (n : ℕ) → get_or (slots_of places) n 0 ≡ get_or places n 0 - 2147483647
slot_at [] n = refl
slot_at (p ∷ places) zero = refl
slot_at (p ∷ places) (suc n) = slot_at places n

pub slots_set : (places : List ℕ) (n p : ℕ) → slots_of (set places n p) ≡ set (slots_of places) n (p - 2147483647)
slots_set [] n p = refl
slots_set (q ∷ places) zero p = refl
slots_set (q ∷ places) (suc n) p = ap (λ (xs : List ℕ). (q - 2147483647) ∷ xs) (slots_set places n p)

pub own_of_home : (rows : List Planes) (places : List ℕ) (n : ℕ) → get_or places n 0 < 2147483648 → get_or (rows_at rows (slots_of places)) n None ≡ None
own_of_home rows places n home =
    let none : get_or (slots_of places) n 0 ≡ 0 = omega (arith, slot_at places n, home) in
    own_at rows (slots_of places) n ∙ ap (row_at rows) none

pub own_of_place : (rows : List Planes) (places : List ℕ) (n : ℕ) → 2147483648 ≤ get_or places n 0 → get_or (rows_at rows (slots_of places)) n None ≡ Some (get_or rows (get_or places n 0 - 2147483648) no_row)
own_of_place rows places n own = own_at rows (slots_of places) n ∙ row_of_slot rows (get_or (slots_of places) n 0) (get_or places n 0 - 2147483648) (omega (arith, slot_at places n, own))

-- ---- all nets sent home

pub home_more : (nets places now : List ℕ) (i m : ℕ) → i < length nets → m ≡ get_or nets i 0 → m < length now → ((n : ℕ) → get_or now n 0 ≡ at_home (take i nets) places n)
    → (n : ℕ) → get_or (set now m m) n 0 ≡ at_home (take (i + 1) nets) places n
home_more nets places now i m lt is inside so_far n =
    let more : list_any (eqb n) (take (i + 1) nets) ≡ (list_any (eqb n) (take i nets) || (eqb n m || false)) = ap (list_any (eqb n)) (take_more nets i 0 lt ∙ ap (λ (x : ℕ). take i nets ++ x ∷ []) (sym is)) ∙ list_any-append (eqb n) (take i nets) (m ∷ []) in
    rw more (elim (cases_eq n m) [
      | inl same ↦ rw (eq-eqb n m same, or_true (list_any (eqb n) (take i nets))) (ap (λ (k : ℕ). get_or (set now m m) k 0) same ∙ get_or-set_same now m m 0 inside ∙ sym same)
      | inr other ↦ rw (ne_eqb n m other, or_false (list_any (eqb n) (take i nets))) (get_or-set_other now m n m 0 other ∙ so_far n)
    ])
  where
    or_true : (x : Bool) → (x || (true || false)) ≡ true
    or_true true = refl
    or_true false = refl

    or_false : (x : Bool) → (x || (false || false)) ≡ x
    or_false true = refl
    or_false false = refl

pub all_home : (places nets now : List ℕ) (rows : List Planes) (a b : ℕ) → IsLaid places nets rows a b → length now ≡ length places → ((n : ℕ) → get_or now n 0 ≡ at_home nets places n) → (n : ℕ) → n < length now → get_or now n 0 ≡ n
all_home places nets now rows a b laid len is n inside = elim (cases_lt 0 (get_or (slots_of places) n 0)) [
  | inl some ↦
      let at = laid.dense.net_of n (omega (arith, inside, len, length-map places (λ (p : ℕ). p - 2147483647))) some in
      let i_in : get_or (slots_of places) n 0 - 1 < length nets = omega (arith, at.0, some) in
      let found : list_any (eqb n) nets ≡ true = any_among (eqb n) nets n (get_or (slots_of places) n 0 - 1, i_in, get_or_default nets (get_or (slots_of places) n 0 - 1) n 0 i_in ∙ at.1) (eq-eqb n n refl) in
      is n ∙ ap (λ (t : Bool). cond t n (get_or places n 0)) found
  | inr none ↦
      let low : get_or places n 0 < 2147483648 = omega (arith, slot_at places n, none) in
      is n ∙ both (list_any (eqb n) nets) (get_or places n 0) (laid.home n (omega (arith, inside, len)) low)
]
  where
    both : (t : Bool) (x : ℕ) → x ≡ n → cond t n x ≡ n
    both true x e = refl
    both false x e = e

pub dense_none : (slots : List ℕ) (a b : ℕ) → length slots < 2 ^ 32 → length slots ≤ a → length slots ≤ b → ((n : ℕ) → get_or slots n 0 ≡ 0) → IsDense slots [] [] a b
dense_none slots a b fits a_room b_room blank = record {
  fits = fits;
  one_each = refl;
  slot_of = λ i lt. absurd (omega arith);
  net_of = λ n inside some. absurd (omega (arith, blank n));
  room_of_nets = a_room;
  room_of_rows = b_room;
}

-- with each net at home there is nothing of a change

module _ (places : List ℕ) (few : length places ≤ 2147483648) (home : (n : ℕ) → n < length places → get_or places n 0 ≡ n) where
  no_slot : (n : ℕ) → get_or (slots_of places) n 0 ≡ 0
  no_slot n = slot_at places n ∙ elim (cases_lt n (length places)) [
    | inl inside ↦ omega (arith, home n inside, few, inside)
    | inr outside ↦ omega (arith, get_or_past places n 0 outside)
  ]

  pub laid_none : (a b : ℕ) → length places ≤ a → length places ≤ b → IsLaid places [] [] a b
  laid_none a b a_room b_room = record {
    dense = dense_none (slots_of places) a b (omega (arith, few, length-map places (λ (p : ℕ). p - 2147483647))) (omega (arith, a_room, length-map places (λ (p : ℕ). p - 2147483647))) (omega (arith, b_room, length-map places (λ (p : ℕ). p - 2147483647))) no_slot;
    home = λ n inside low. home n inside;
    few = few;
    few_rows = omega arith;
  }

  pub home_clean : (rows : List Planes) → IsClean (rows_at rows (slots_of places))
  home_clean rows = clean_rows rows (slots_of places) no_slot

-- ---- a net that gets a row

module _ (places nets : List ℕ) (rows : List Planes) (a b : ℕ) (laid : IsLaid places nets rows a b) (n : ℕ) (in_range : n < length places) (r : Planes) where
  slot_inside : n < length (slots_of places)
  slot_inside = omega (arith, in_range, length-map places (λ (p : ℕ). p - 2147483647))

  module _ (free : get_or places n 0 < 2147483648) where
    no_slot_yet : get_or (slots_of places) n 0 ≡ 0
    no_slot_yet = slot_at places n ∙ omega (arith, free)

    pub more_room : length nets < length places
    more_room = omega (arith, room_left (slots_of places) nets rows a b laid.dense n slot_inside no_slot_yet r, length-map places (λ (p : ℕ). p - 2147483647))

    slots_named : slots_of (set places n (2147483648 + length nets)) ≡ set (slots_of places) n (length nets + 1)
    slots_named = slots_set places n (2147483648 + length nets) ∙ ap (λ (k : ℕ). set (slots_of places) n k) (omega arith)

    pub laid_push : IsLaid (set places n (2147483648 + length nets)) (nets ++ n ∷ []) (rows ++ r ∷ []) a b
    laid_push = record {
      dense = rw slots_named (dense_push (slots_of places) nets rows a b laid.dense n slot_inside no_slot_yet r);
      home = λ m inside low. elim (cases_eq m n) [
        | inl same ↦ absurd (omega (arith, low, ap (λ (k : ℕ). get_or (set places n (2147483648 + length nets)) k 0) same ∙ get_or-set_same places n (2147483648 + length nets) 0 in_range))
        | inr other ↦
            let stays : get_or (set places n (2147483648 + length nets)) m 0 ≡ get_or places m 0 = get_or-set_other places n m (2147483648 + length nets) 0 other in
            stays ∙ laid.home m (omega (arith, inside, length-set places n (2147483648 + length nets))) (omega (arith, stays, low))
      ];
      few = omega (arith, laid.few, length-set places n (2147483648 + length nets));
      few_rows = omega (arith, more_room, laid.dense.one_each, length_push rows r, length-set places n (2147483648 + length nets));
    }

    pub own_push : rows_at (rows ++ r ∷ []) (slots_of (set places n (2147483648 + length nets))) ≡ set (rows_at rows (slots_of places)) n (Some r)
    own_push = rw slots_named (rows_push (slots_of places) nets rows a b laid.dense n slot_inside no_slot_yet r)

  module _ (taken : 2147483648 ≤ get_or places n 0) where
    slot_now : get_or places n 0 - 2147483647 ≡ get_or (slots_of places) n 0
    slot_now = sym (slot_at places n)

    slot_some : get_or places n 0 - 2147483647 ≢ 0
    slot_some e = omega (arith, e, taken)

    down : (get_or places n 0 - 2147483647) - 1 ≡ get_or places n 0 - 2147483648
    down = omega (arith, taken)

    pub own_inside : get_or places n 0 - 2147483648 < length rows
    own_inside = omega (arith, place_inside (slots_of places) nets rows a b laid.dense n slot_inside (get_or places n 0 - 2147483647) slot_now slot_some r, down)

    pub own_set : rows_at (set rows (get_or places n 0 - 2147483648) r) (slots_of places) ≡ set (rows_at rows (slots_of places)) n (Some r)
    own_set = ap (λ (k : ℕ). rows_at (set rows k r) (slots_of places)) (sym down) ∙ rows_set (slots_of places) nets rows a b laid.dense n slot_inside (get_or places n 0 - 2147483647) slot_now slot_some r

-- ---- what places name

pub found_of_laid : (places nets : List ℕ) (rows good : List Planes) (a b : ℕ) → IsLaid places nets rows a b → length good ≡ length places → AreFound places good rows
found_of_laid places nets rows good a b laid fits = record {
  fits = sym fits;
  home = laid.home;
  inside = λ n lt own.
      let at = laid.dense.net_of n (omega (arith, lt, length-map places (λ (p : ℕ). p - 2147483647))) (omega (arith, slot_at places n, own)) in
      omega (arith, at.0, slot_at places n, laid.dense.one_each, own);
  few = omega (arith, laid.few_rows, laid.few);
}

lent_is : (lists : List (Bor (List Planes))) (i : ℕ) (d : Bor (List Planes)) → i < length lists → lent_at lists i ≡ (get_or lists i d).now
lent_is [] i d lt = absurd (omega arith)
lent_is (l ∷ lists) zero d lt = refl
lent_is (l ∷ lists) (suc i) d lt = lent_is lists i d (omega arith)

module _ (places : List ℕ) (lists : List (Bor (List Planes))) (two : length lists ≡ 2) (found : AreFound places (lent_at lists 0) (lent_at lists 1)) (n : ℕ) (in_range : n < length places)
    (list : Bor (List Planes)) (is : list ≡ get_or lists (get_or places n 0 / 2147483648) list) where
  low_list : get_or places n 0 < 2147483648 → list.now ≡ lent_at lists 0
  low_list low =
      let first : get_or places n 0 / 2147483648 ≡ 0 = omega (arith, low) in
      ap (λ (l : Bor (List Planes)). l.now) (is ∙ ap (λ (i : ℕ). get_or lists i list) first) ∙ sym (lent_is lists 0 list (omega (arith, two)))

  own_list : 2147483648 ≤ get_or places n 0 → list.now ≡ lent_at lists 1
  own_list own =
      let second : get_or places n 0 / 2147483648 ≡ 1 = omega (arith, own, found.inside n in_range own, found.few) in
      ap (λ (l : Bor (List Planes)). l.now) (is ∙ ap (λ (i : ℕ). get_or lists i list) second) ∙ sym (lent_is lists 1 list (omega (arith, two)))

  pub named_inside : get_or places n 0 % 2147483648 < length list.now
  named_inside = elim (cases_lt (get_or places n 0) 2147483648) [
    | inl low ↦ rw (low_list low) (omega (arith, found.home n in_range low, found.fits, in_range, low))
    | inr own ↦ rw (own_list own) (omega (arith, found.inside n in_range own, own, found.few))
  ]

  pub named_row : (row : Planes) → row ≡ get_or list.now (get_or places n 0 % 2147483648) row → row ≡ row_now (rows_at (lent_at lists 1) (slots_of places)) (lent_at lists 0) n
  named_row row is_row = elim (cases_lt (get_or places n 0) 2147483648) [
    | inl low ↦
        let at : get_or places n 0 % 2147483648 ≡ n = omega (arith, found.home n in_range low, low) in
        is_row
        ∙ ap (λ (k : ℕ). get_or list.now k row) at
        ∙ ap (λ (rows : List Planes). get_or rows n row) (low_list low)
        ∙ get_or_default (lent_at lists 0) n row no_row (omega (arith, found.fits, in_range))
        ∙ sym (ap (λ (own : Option Planes). unwrap_or own (get_or (lent_at lists 0) n no_row)) (own_of_home (lent_at lists 1) places n low))
    | inr own ↦
        let at : get_or places n 0 % 2147483648 ≡ get_or places n 0 - 2147483648 = omega (arith, own, found.inside n in_range own, found.few) in
        is_row
        ∙ ap (λ (k : ℕ). get_or list.now k row) at
        ∙ ap (λ (rows : List Planes). get_or rows (get_or places n 0 - 2147483648) row) (own_list own)
        ∙ get_or_default (lent_at lists 1) (get_or places n 0 - 2147483648) row no_row (omega (arith, found.inside n in_range own, own))
        ∙ sym (ap (λ (mine : Option Planes). unwrap_or mine (get_or (lent_at lists 0) n no_row)) (own_of_place (lent_at lists 1) places n own))
  ]

-- ---- the nets that are listed

pub listed_has_row : (slots nets : List ℕ) (rows : List Planes) (a b : ℕ) → IsDense slots nets rows a b → (n : ℕ) → Contains nets n → get_or (rows_at rows slots) n None ≢ None
listed_has_row slots nets rows a b dense n in' none =
    let at : get_or nets in'.0 0 ≡ n = get_or_default nets in'.0 0 n in'.1 ∙ in'.2 in
    let slot : get_or slots n 0 ≡ in'.0 + 1 = ap (λ (k : ℕ). get_or slots k 0) (sym at) ∙ (dense.slot_of in'.0 in'.1).1 in
    let some : get_or (rows_at rows slots) n None ≡ Some (get_or rows in'.0 no_row) = own_at rows slots n ∙ row_of_slot rows (get_or slots n 0) in'.0 slot in
    cc

pub has_row_listed : (slots nets : List ℕ) (rows : List Planes) (a b : ℕ) → IsDense slots nets rows a b → (n : ℕ) → get_or (rows_at rows slots) n None ≢ None → Contains nets n
has_row_listed slots nets rows a b dense n some = elim (cases_lt n (length slots)) [
  | inr outside ↦ absurd (some (own_at rows slots n ∙ ap (row_at rows) (get_or_past slots n 0 outside)))
  | inl inside ↦ elim (cases_lt 0 (get_or slots n 0)) [
    | inr none ↦ let zero_slot : get_or slots n 0 ≡ 0 = omega arith in absurd (some (own_at rows slots n ∙ ap (row_at rows) zero_slot))
    | inl slot ↦
        let at = dense.net_of n inside slot in
        let i_in : get_or slots n 0 - 1 < length nets = omega (arith, at.0, slot) in
        (get_or slots n 0 - 1, i_in, get_or_default nets (get_or slots n 0 - 1) n 0 i_in ∙ at.1)
  ]
]

-- each net is listed once
pub listed_differ : (slots nets : List ℕ) (rows : List Planes) (nets_room rows_room : ℕ) → IsDense slots nets rows nets_room rows_room → IsDistinct eqb nets
listed_differ slots nets rows nets_room rows_room dense = distinct_from nets (λ i j lt inside same.
    let a = dense.slot_of i (omega arith) in
    let b = dense.slot_of j inside in
    omega (arith, a.1, b.1, ap (λ (n : ℕ). get_or slots n 0) same))
