-- Slots, and the lists that they name.
use Rattle.std.proofs.Common.{◌≡◌, ◌≢◌, ℕ, zero, suc, ◌+◌, ◌-◌, ◌<◌, ◌≤◌, ◌^◌, Bool, true, false, eqb, cond, List, [], ◌∷◌, ◌++◌, length, get_or, set, Some, None, refl, sym, ap, ◌∙◌, inl, inr, arith}
use Rattle.std.specs.List.{list_any, IsDistinct}
use Rattle.std.proofs.lemmas.Bool.{cases_eq, cases_lt, eq-eqb, ne_eqb, eqb-true}
use Rattle.std.proofs.lemmas.List.{get_or-set_same, get_or-set_other, length-set, length-map, length_push, get_or_push, get_or_append_left, ext_get_or, get_or_default, get_or_past}
use Rattle.std.proofs.lemmas.Map.Keys.{IsDistinct-from_apart}
use Rattle.std.proofs.lemmas.Map.Steps.{length-le_from_distinct_below}
use Rattle.scan_model.proofs.FanSweeps.{any_found, any_among}
use Rattle.bridge_pairs.specs.PairRows.{row_at, rows_at, IsBlank, emptied, HaveSlots}

-- ---- the row of a slot

own_at : (rows : List (List ℕ)) (slots : List ℕ) (n : ℕ) → get_or (rows_at rows slots) n None ≡ row_at rows (get_or slots n 0)
own_at rows [] n = refl
own_at rows (s ∷ slots) zero = refl
own_at rows (s ∷ slots) (suc n) = own_at rows slots n

row_of_slot : (rows : List (List ℕ)) (s i : ℕ) → s ≡ i + 1 → row_at rows s ≡ Some (get_or rows i [])
row_of_slot rows zero i is = absurd (omega arith)
row_of_slot rows (suc j) i is = let e : j ≡ i = omega arith in ap (λ (k : ℕ). Some (get_or rows k [])) e

row_stays : (rows : List (List ℕ)) (r : List ℕ) (s : ℕ) → s ≤ length rows → row_at (rows ++ r ∷ []) s ≡ row_at rows s
row_stays rows r zero le = refl
row_stays rows r (suc i) le = ap (λ (x : List ℕ). Some x) (get_or_append_left rows (r ∷ []) [] i (omega arith))

row_elsewhere : (rows : List (List ℕ)) (r : List ℕ) (s i : ℕ) → s ≢ i + 1 → row_at (set rows i r) s ≡ row_at rows s
row_elsewhere rows r zero i other = refl
row_elsewhere rows r (suc j) i other =
    let apart : j ≢ i = λ e. other (omega arith) in
    ap (λ (x : List ℕ). Some x) (get_or-set_other rows i j r [] apart)

pub blank_rows : (rows : List (List ℕ)) (slots : List ℕ) → ((n : ℕ) → get_or slots n 0 ≡ 0) → IsBlank (rows_at rows slots)
blank_rows rows slots blank n = own_at rows slots n ∙ ap (row_at rows) (blank n)

module _ (slots nets : List ℕ) (rows : List (List ℕ)) (slotted : HaveSlots slots nets rows) (n : ℕ) (in_range : n < length slots) where
  -- ---- a net that has no slot yet

  module _ (free : get_or slots n 0 ≡ 0) (r : List ℕ) where
    abbrev more : List ℕ
    more = nets ++ n ∷ []

    listed : (i : ℕ) → i < length nets → get_or more i 0 ≡ get_or nets i 0
    listed i lt = get_or_append_left nets (n ∷ []) 0 i lt

    last : (i : ℕ) → i ≡ length nets → get_or more i 0 ≡ n
    last i is = ap (λ (k : ℕ). get_or more k 0) is ∙ get_or_push nets n 0 (length nets) refl

    not_listed : (i : ℕ) → i < length nets → get_or nets i 0 ≢ n
    not_listed i lt same =
        let zero_slot : get_or slots (get_or nets i 0) 0 ≡ 0 = ap (λ (k : ℕ). get_or slots k 0) same ∙ free in
        omega (arith, (slotted.slot_of i lt).1, zero_slot)

    apart : (i j : ℕ) → i < j → j < length more → get_or more i 0 ≢ get_or more j 0
    apart i j lt inside same =
        let i_in : i < length nets = omega (arith, length_push nets n) in
        elim (cases_lt j (length nets)) [
          | inl j_in ↦
              let nets_same : get_or nets i 0 ≡ get_or nets j 0 = sym (listed i i_in) ∙ same ∙ listed j j_in in
              omega (arith, (slotted.slot_of i i_in).1, (slotted.slot_of j j_in).1, ap (λ (k : ℕ). get_or slots k 0) nets_same)
          | inr at_end ↦ not_listed i i_in (sym (listed i i_in) ∙ same ∙ last j (omega (arith, length_push nets n)))
        ]

    in_slots : (i : ℕ) → i < length more → get_or more i 0 < length slots
    in_slots i inside = elim (cases_lt i (length nets)) [
      | inl i_in ↦ rw (listed i i_in) (slotted.slot_of i i_in).0
      | inr at_end ↦ rw (last i (omega (arith, length_push nets n))) in_range
    ]

    pub room_left : length nets < length slots
    room_left =
        let distinct : IsDistinct eqb more = IsDistinct-from_apart eqb more (λ i j d lt inside. ne_eqb (get_or more i d) (get_or more j d) (λ e.
        apart i j lt inside (get_or_default more i 0 d (omega arith) ∙ e ∙ get_or_default more j d 0 inside))) in
        let below : (q : ℕ) → list_any (eqb q) more ≡ true → q < length slots = λ q some.
        let found = any_found (eqb q) more some in
        let at = found.1 in
        let is : get_or more at.0 0 ≡ q = get_or_default more at.0 0 found.0 at.1 ∙ at.2 ∙ sym (eqb-true q found.0 found.2) in
        omega (arith, in_slots at.0 at.1, is) in
        omega (arith, length-le_from_distinct_below more (length slots) distinct below, length_push nets n)

    abbrev named : List ℕ
    named = set slots n (length nets + 1)

    pub slots_push : HaveSlots named more (rows ++ r ∷ [])
    slots_push = record {
      fits = omega (arith, slotted.fits, length-set slots n (length nets + 1));
      one_each = length_push rows r ∙ ap (λ (k : ℕ). k + 1) slotted.one_each ∙ sym (length_push nets n);
      slot_of = λ i inside. (
        omega (arith, in_slots i inside, length-set slots n (length nets + 1)),
        elim (cases_lt i (length nets)) [
          | inl i_in ↦ ap (λ (k : ℕ). get_or named k 0) (listed i i_in) ∙ get_or-set_other slots n (get_or nets i 0) (length nets + 1) 0 (not_listed i i_in) ∙ (slotted.slot_of i i_in).1
          | inr at_end ↦
              let is : i ≡ length nets = omega (arith, length_push nets n) in
              ap (λ (k : ℕ). get_or named k 0) (last i is) ∙ get_or-set_same slots n (length nets + 1) 0 in_range ∙ ap (λ (k : ℕ). k + 1) (sym is)
        ],
      );
      net_of = λ m inside some. elim (cases_eq m n) [
        | inl same ↦
            let slot : get_or named m 0 ≡ length nets + 1 = ap (λ (k : ℕ). get_or named k 0) same ∙ get_or-set_same slots n (length nets + 1) 0 in_range in
            (omega (arith, slot, length_push nets n), last (get_or named m 0 - 1) (omega (arith, slot)) ∙ sym same)
        | inr other ↦
            let slot : get_or named m 0 ≡ get_or slots m 0 = get_or-set_other slots n m (length nets + 1) 0 other in
            let before = slotted.net_of m (omega (arith, length-set slots n (length nets + 1))) (omega (arith, slot)) in
            (omega (arith, slot, before.0, length_push nets n), ap (λ (k : ℕ). get_or more (k - 1) 0) slot ∙ listed (get_or slots m 0 - 1) (omega (arith, slot, before.0)) ∙ before.1)
      ];
    }

    pub rows_push : rows_at (rows ++ r ∷ []) named ≡ set (rows_at rows slots) n (Some r)
    rows_push = ext_get_or None (rows_at (rows ++ r ∷ []) named) (set (rows_at rows slots) n (Some r))
        (length-map named (row_at (rows ++ r ∷ [])) ∙ length-set slots n (length nets + 1) ∙ sym (length-set (rows_at rows slots) n (Some r) ∙ length-map slots (row_at rows)))
        (λ m inside. own_at (rows ++ r ∷ []) named m ∙ elim (cases_eq m n) [
          | inl same ↦
              let slot : get_or named m 0 ≡ length nets + 1 = ap (λ (k : ℕ). get_or named k 0) same ∙ get_or-set_same slots n (length nets + 1) 0 in_range in
              row_of_slot (rows ++ r ∷ []) (get_or named m 0) (length nets) slot
              ∙ ap (λ (x : List ℕ). Some x) (get_or_push rows r [] (length nets) slotted.one_each)
              ∙ sym (ap (λ (k : ℕ). get_or (set (rows_at rows slots) n (Some r)) k None) same ∙ get_or-set_same (rows_at rows slots) n (Some r) None (omega (arith, length-map slots (row_at rows))))
          | inr other ↦
              ap (row_at (rows ++ r ∷ [])) (get_or-set_other slots n m (length nets + 1) 0 other)
              ∙ row_stays rows r (get_or slots m 0) (slot_within m)
              ∙ sym (get_or-set_other (rows_at rows slots) n m (Some r) None other ∙ own_at rows slots m)
        ])
      where
        slot_within : (m : ℕ) → get_or slots m 0 ≤ length rows
        slot_within m = elim (cases_lt m (length slots)) [
          | inl inside ↦ elim (cases_lt 0 (get_or slots m 0)) [
            | inl some ↦ omega (arith, (slotted.net_of m inside some).0, slotted.one_each)
            | inr none ↦ omega arith
          ]
          | inr outside ↦ omega (arith, get_or_past slots m 0 outside)
        ]

  -- ---- a net that has a slot

  module _ (s : ℕ) (is : s ≡ get_or slots n 0) (some : s ≢ 0) (r : List ℕ) where
    place_inside : s - 1 < length rows
    place_inside = omega (arith, (slotted.net_of n in_range (positive s some is)).0, slotted.one_each, nonzero s some)
      where
        nonzero : (x : ℕ) → x ≢ 0 → 0 < x
        nonzero zero ne = absurd (ne refl)
        nonzero (suc x) ne = omega arith

        positive : (x : ℕ) → x ≢ 0 → x ≡ get_or slots n 0 → 0 < get_or slots n 0
        positive x ne e = omega (arith, nonzero x ne)

    pub rows_set : rows_at (set rows (s - 1) r) slots ≡ set (rows_at rows slots) n (Some r)
    rows_set = ext_get_or None (rows_at (set rows (s - 1) r) slots) (set (rows_at rows slots) n (Some r))
        (length-map slots (row_at (set rows (s - 1) r)) ∙ sym (length-set (rows_at rows slots) n (Some r) ∙ length-map slots (row_at rows)))
        (λ m inside. own_at (set rows (s - 1) r) slots m ∙ elim (cases_eq m n) [
          | inl same ↦
              row_of_slot (set rows (s - 1) r) (get_or slots m 0) (s - 1) (ap (λ (k : ℕ). get_or slots k 0) same ∙ sym is ∙ back)
              ∙ ap (λ (x : List ℕ). Some x) (get_or-set_same rows (s - 1) r [] place_inside)
              ∙ sym (ap (λ (k : ℕ). get_or (set (rows_at rows slots) n (Some r)) k None) same ∙ get_or-set_same (rows_at rows slots) n (Some r) None (omega (arith, length-map slots (row_at rows))))
          | inr other ↦
              row_elsewhere rows r (get_or slots m 0) (s - 1) (λ e. other (one_net m (omega (arith, inside, length-map slots (row_at (set rows (s - 1) r)))) (e ∙ sym back)))
              ∙ sym (get_or-set_other (rows_at rows slots) n m (Some r) None other ∙ own_at rows slots m)
        ])
      where
        nonzero : (x : ℕ) → x ≢ 0 → 0 < x
        nonzero zero ne = absurd (ne refl)
        nonzero (suc x) ne = omega arith

        back : s ≡ (s - 1) + 1
        back = omega (arith, nonzero s some)

        one_net : (m : ℕ) → m < length slots → get_or slots m 0 ≡ s → m ≡ n
        one_net m inside e =
            let first = slotted.net_of m inside (omega (arith, nonzero s some)) in
            let second = slotted.net_of n in_range (omega (arith, nonzero s some)) in
            sym first.1 ∙ ap (λ (k : ℕ). get_or nets (k - 1) 0) (e ∙ is) ∙ second.1

-- ---- all slots emptied

pub all_emptied : (slots nets now : List ℕ) (rows : List (List ℕ)) → HaveSlots slots nets rows → length now ≡ length slots → ((n : ℕ) → get_or now n 0 ≡ emptied nets slots n) → (n : ℕ) → get_or now n 0 ≡ 0
all_emptied slots nets now rows slotted len is n = elim (cases_lt n (length slots)) [
  | inr outside ↦ get_or_past now n 0 (omega (arith, len))
  | inl inside ↦ elim (cases_lt 0 (get_or slots n 0)) [
    | inl some ↦
        let at = slotted.net_of n inside some in
        let i_in : get_or slots n 0 - 1 < length nets = omega (arith, at.0) in
        let found : list_any (eqb n) nets ≡ true = any_among (eqb n) nets n (get_or slots n 0 - 1, i_in, get_or_default nets (get_or slots n 0 - 1) n 0 i_in ∙ at.1) (eq-eqb n n refl) in
        is n ∙ ap (λ (t : Bool). cond t 0 (get_or slots n 0)) found
    | inr none ↦ is n ∙ both (list_any (eqb n) nets) (get_or slots n 0) (omega arith)
  ]
]
  where
    both : (t : Bool) (x : ℕ) → x ≡ 0 → cond t 0 x ≡ 0
    both true x e = refl
    both false x e = e

pub slots_none : (slots : List ℕ) → length slots < 2 ^ 32 → ((n : ℕ) → get_or slots n 0 ≡ 0) → HaveSlots slots [] []
slots_none slots fits blank = record {
  fits = fits;
  one_each = refl;
  slot_of = λ i lt. absurd (omega arith);
  net_of = λ n inside some. absurd (omega (arith, blank n));
}
