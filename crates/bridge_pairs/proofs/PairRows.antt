-- The operands of a gate, and rows with a lane for each pair of a batch.
use Rattle.std.proofs.Common.{◌≡◌, ◌≢◌, ℕ, ◌+◌, ◌-◌, ◌%◌, ◌<◌, ◌≤◌, Bool, true, false, eqb, ltb, ◌||◌, ◌&&◌, List, [], ◌∷◌, length, map, take, drop, get_or, Option, Some, None, is_some, refl, sym, ap, ◌∙◌, inl, inr, arith}
use Rattle.std.specs.Prelude.{All, unwrap_or}
use Rattle.std.specs.List.{list_any}
use Rattle.std.proofs.Math.Bool.{or-false}
use Rattle.std.proofs.lemmas.Bool.{cases_eq, cases_lt, eq-eqb, ne_eqb, lt-ltb, le-ltb, or_right, or_parts}
use Rattle.std.proofs.lemmas.List.{ext_get_or, get_or_default, get_or-map, get_or-take, get_or-drop, length-map, length-take, length-drop}
use Rattle.std.proofs.lemmas.List.Folds.{list_any_more}
use Rattle.std.proofs.lemmas.List.FromFn.{length-map-range_with_len, get_or-map-range_with_len}
use Rattle.std.proofs.lemmas.Nat.Bits.{bit_at-zero}
use Rattle.scan_model.specs.declared.circuit.Pin.{Pin}
use Rattle.scan_model.specs.Netlist.{Netlist, IsNetlist, reads, net_at, pin_at, no_pin}
use Rattle.scan_model.specs.Walks.{IsEvaluationOrder}
use Rattle.scan_model.proofs.FanSweeps.{any_among, IsSwept, swept_more}
use Rattle.bit_rows.specs.Lanes.{lane}
use Rattle.bridge_pairs.specs.PairRows.{has_row, has_pair, IsBlank}

-- ---- the pins of a gate's operands

-- as many pins from the first on as there are operands
module _ (c : Netlist) (g first count : ℕ) (pins : List Pin) (are : pins ≡ c.pins) (starts : first ≡ (net_at c g).first_pin) (as_many : count ≡ (net_at c g).pin_count)
    (fit : (net_at c g).first_pin + (net_at c g).pin_count ≤ length c.pins) where
  abbrev read : List Pin
  read = take count (drop first pins)

  read_length : length read ≡ count
  read_length = omega (arith, length-take count (drop first pins), length-drop first pins, ap length are)

  read_at : (i : ℕ) → i < count → get_or read i no_pin ≡ pin_at c (first + i)
  read_at i lt = get_or-take count (drop first pins) i no_pin lt ∙ get_or-drop first pins i no_pin ∙ ap (λ xs. get_or xs (first + i) no_pin) are

  pub operands_read : map (λ p. p.net) read ≡ reads c g
  operands_read =
      ext_get_or 0 (map (λ p. p.net) read) (reads c g)
      (length-map read (λ p. p.net) ∙ read_length ∙ as_many ∙ sym (length-map-range_with_len (λ p. (pin_at c p).net) (net_at c g).first_pin (net_at c g).pin_count))
      (λ i lt.
      let inside : i < length read = omega (arith, lt, length-map read (λ p. p.net)) in
      get_or-map (λ p. p.net) read i no_pin 0 inside
      ∙ ap (λ p. p.net) (read_at i (omega (arith, inside, read_length)))
      ∙ sym (get_or-map-range_with_len (λ p. (pin_at c p).net) (net_at c g).first_pin (net_at c g).pin_count i (first + i) 0 (omega (arith, inside, read_length)) (omega arith)))

  pub operands_within : IsNetlist c → All (λ p. p.net < length c.nets) read
  operands_within netlist i d lt =
      let inside : i < count = omega (arith, lt, read_length) in
      let is : get_or read i d ≡ pin_at c (first + i) = get_or_default read i d no_pin lt ∙ read_at i inside in
      rw is (netlist.pin_nets (first + i) (omega arith))

-- operands one by one
module _ (p : ℕ → Bool) (read : List ℕ) (pins : List Pin) (i : ℕ) (d : Pin) (are : map (λ pin. pin.net) pins ≡ read) (lt : i < length pins) where
  read_here : get_or read i 0 ≡ (get_or pins i d).net
  read_here = ap (λ xs. get_or xs i 0) (sym are) ∙ get_or-map (λ pin. pin.net) pins i d 0 lt

  inside : i < length read
  inside = omega (arith, lt, ap length are, length-map pins (λ pin. pin.net))

  pub any_more : list_any p (take (i + 1) read) ≡ (list_any p (take i read) || p (get_or pins i d).net)
  any_more = list_any_more p read i 0 inside ∙ ap (λ n. list_any p (take i read) || p n) read_here

  pub none_more : list_any p (take i read) ≡ false → p (get_or pins i d).net ≡ false → list_any p (take (i + 1) read) ≡ false
  none_more none fails = rw (any_more, none, fails) refl

  pub any_here : p (get_or pins i d).net ≡ true → list_any p read ≡ true
  any_here passes = any_among p read (get_or read i 0) (i, inside, get_or_default read i (get_or read i 0) 0 inside) (ap p read_here ∙ passes)

-- ---- rows

no_lane : (j : ℕ) → lane [] j ≡ false
no_lane j = ap (λ (n : ℕ). eqb n 1) (bit_at-zero (j % 64))

-- before the first start
pub no_start : (rows : List (Option (List ℕ))) → IsBlank rows → (j n start : ℕ) → has_pair rows j n ≡ (ltb j 0 && eqb n start)
no_start rows blank j n start = ap (λ o. lane (unwrap_or o []) j) (blank n) ∙ no_lane j ∙ ap (λ b. b && eqb n start) (sym (le-ltb j 0 (omega arith)))

-- nets without a row have no lane
pub no_row_read : (rows : List (Option (List ℕ))) (xs : List ℕ) (j : ℕ) → list_any (has_row rows) xs ≡ false → list_any (has_pair rows j) xs ≡ false
no_row_read rows [] j none = refl
no_row_read rows (x ∷ xs) j none =
    let both = or_parts (has_row rows x) (list_any (has_row rows) xs) none in
    rw (no_row (get_or rows x None) both.0, no_row_read rows xs j both.1) refl
  where
    no_row : (o : Option (List ℕ)) → is_some o ≡ false → lane (unwrap_or o []) j ≡ false
    no_row None none = no_lane j
    no_row (Some row) none = absurd cc

-- lanes added to the row of net `at`
module _ (old new : List (Option (List ℕ))) (at : ℕ) (lanes : List ℕ)
    (here : (j : ℕ) → j < 512 → has_pair new j at ≡ (has_pair old j at || lane lanes j))
    (elsewhere : (j n : ℕ) → n ≢ at → has_pair new j n ≡ has_pair old j n) where
  -- one more start
  pub starts_more : (k : ℕ) → ((j : ℕ) → j < 512 → lane lanes j ≡ eqb j k) → (j n start : ℕ) → j < 512 → (j ≡ k → start ≡ at) → has_pair old j n ≡ (ltb j k && eqb n start) → has_pair new j n ≡ (ltb j (k + 1) && eqb n start)
  starts_more k one j n start lt own so_far = elim (cases_eq j k) [
    | inl same ↦
        let before : ltb j k ≡ false = le-ltb j k (omega arith) in
        let now : ltb j (k + 1) ≡ true = lt-ltb j (k + 1) (omega arith) in
        let none : has_pair old j n ≡ false = so_far ∙ ap (λ (b : Bool). b && eqb n start) before in
        rw now (elim (cases_eq n at) [
          | inl there ↦ ap (has_pair new j) there ∙ here j lt ∙ or_right (has_pair old j at) (lane lanes j) (one j lt ∙ eq-eqb j k same) ∙ sym (eq-eqb n start (there ∙ sym (own same)))
          | inr other ↦ elsewhere j n other ∙ none ∙ sym (ne_eqb n start (λ e. other (e ∙ own same)))
        ])
    | inr apart ↦
        let still : ltb j k ≡ ltb j (k + 1) = elim (cases_lt j k) [
          | inl under ↦ lt-ltb j k under ∙ sym (lt-ltb j (k + 1) (omega arith))
          | inr over ↦ le-ltb j k over ∙ sym (le-ltb j (k + 1) (omega arith))
        ] in
        elim (cases_eq n at) [
          | inl there ↦
              ap (has_pair new j) there ∙ here j lt ∙ ap (λ (b : Bool). has_pair old j at || b) (one j lt ∙ ne_eqb j k apart) ∙ or-false (has_pair old j at) ∙ ap (has_pair old j) (sym there)
              ∙ so_far ∙ ap (λ (b : Bool). b && eqb n start) still
          | inr other ↦ elsewhere j n other ∙ so_far ∙ ap (λ (b : Bool). b && eqb n start) still
        ]
  ]

-- one more gate
pub swept_lane : (c : Netlist) (order : List ℕ) (old new : List (Option (List ℕ))) (at k m j : ℕ) → IsNetlist c → IsEvaluationOrder c order → k < length order → get_or order k 0 ≡ at
    → has_pair new j at ≡ (has_pair old j at || list_any (has_pair old j) (reads c at)) → ((n : ℕ) → n ≢ at → has_pair new j n ≡ has_pair old j n)
    → m < length c.nets → IsSwept c order m k (has_pair old j) → IsSwept c order m (k + 1) (has_pair new j)
swept_lane c order old new at k m j sound ordered k_lt gate here elsewhere m_lt swept =
    swept_more c order sound ordered m k (has_pair old j) (has_pair new j) m_lt k_lt swept (rw gate here) (λ n in_range other. elsewhere n (λ e. other (e ∙ sym gate)))
