-- What a predicted log lists: exactly the predicted bits.
use Rattle.std.proofs.Common.{◌≡◌, ℕ, zero, suc, ◌+◌, ◌<◌, ◌≤◌, Bool, true, false, ◌&&◌, ◌||◌, eqb, List, [], ◌∷◌, ◌++◌, length, map, get_or, Option, unwrap_or, refl, sym, ap, ◌∙◌, inl, inr, arith}
use Rattle.std.specs.Prelude.{filter, flat_map, filter_map, decimal, bytes_eq, nat_eq}
use Rattle.std.specs.List.{list_any, range_with_len, cons_option, IsDistinct, AllByRecursion}
use Rattle.std.specs.Cmp.Lexicographic.{bytes_decides, nat_list_eq_equiv}
use Rattle.std.proofs.lemmas.Bool.{cases_Bool, cases_lt, both_ways, eqb-true, eq-eqb}
use Rattle.std.proofs.lemmas.List.{get_or-map, length-map}
use Rattle.std.proofs.lemmas.List.Elements.{filter-append}
use Rattle.std.proofs.lemmas.List.Folds.{list_any-append}
use Rattle.std.proofs.lemmas.Map.Keys.{apart_from_distinct}
use Rattle.scan_model.specs.declared.parts.Point.{Point}
use Rattle.scan_model.specs.declared.parts.Point.TheVariants.{Output, Cell}
use Rattle.scan_model.specs.declared.fault.Fault.{Fault}
use Rattle.scan_model.specs.declared.logs.Bit.{Bit}
use Rattle.scan_model.specs.Netlist.{no_net}
use Rattle.scan_model.specs.ScanTest.{ScanTest, IsScanTest, IsPoint, no_chain, name_of, chain_at, points_of, point_at}
use Rattle.scan_model.specs.Response.{predicts_fail}
use Rattle.scan_model.specs.Coverage.{bit_of, same_bit, bits_of}
use Rattle.scan_model.specs.Words.{number_of}
use Rattle.scan_model.specs.LogText.{LogFrame, LogLine, log_frame, end_line, pattern_named, names_point, is_listed, points_listed, bits_listed, is_shift}
use Rattle.scan_model.proofs.Outputs.{output_in_range}
use Rattle.scan_model.proofs.Points.{points_are_points}
use Rattle.diag_report.specs.PredictedLog.{predicted_bits, last_pattern}
use Rattle.diag_report.proofs.Bools.{left_true, right_true, both_true, or_right, or_false}
use Rattle.diag_report.proofs.NumberWords.{number_back}
use Rattle.diag_report.proofs.OwnLog.{any_filter, same_bit-is, same_bit-self}
use Rattle.diag_report.proofs.LogForms.{point_form, fail_form, header_forms}
use Rattle.diag_report.proofs.ListedBits.{IsListed, all_listed, predicts_at, predicts_is, cells_short}

-- ---- rows of bits

row_kept : (g : ℕ → Bool) (p : Bit → Bool) (w a n : ℕ) → ((k : ℕ) → k < a + n → g k ≡ p (bit_of w k)) → map (bit_of w) (filter g (range_with_len a n)) ≡ filter p (map (bit_of w) (range_with_len a n))
row_kept g p w a zero agree = refl
row_kept g p w a (suc n) agree =
    let rest = row_kept g p w (a + 1) n (λ k lt. agree k (omega arith)) in
    let first : g a ≡ p (bit_of w a) = agree a (omega arith) in
    elim (cases_Bool (p (bit_of w a))) [
      | inl e ↦ let yes : g a ≡ true = first ∙ e in rw (yes, e) (ap (λ (bs : List Bit). bit_of w a ∷ bs) rest)
      | inr e ↦ let no : g a ≡ false = first ∙ e in rw (no, e) rest
    ]

rows_kept : (g : ℕ → ℕ → Bool) (p : Bit → Bool) (n a m : ℕ) → ((w k : ℕ) → w < a + m → k < n → g w k ≡ p (bit_of w k))
    → flat_map (λ w. map (bit_of w) (filter (g w) (range_with_len 0 n))) (range_with_len a m) ≡ filter p (flat_map (λ w. map (bit_of w) (range_with_len 0 n)) (range_with_len a m))
rows_kept g p n a zero agree = refl
rows_kept g p n a (suc m) agree =
    let later : List Bit = flat_map (λ w. map (bit_of w) (range_with_len 0 n)) (range_with_len (a + 1) m) in
    ap (λ (bs : List Bit). bs ++ flat_map (λ w. map (bit_of w) (filter (g w) (range_with_len 0 n))) (range_with_len (a + 1) m)) (row_kept (g a) p a 0 n (λ k lt. agree a k (omega arith) (omega arith)))
    ∙ ap (λ (bs : List Bit). filter p (map (bit_of a) (range_with_len 0 n)) ++ bs) (rows_kept g p n (a + 1) m (λ w k w_lt k_lt. agree w k (omega arith) k_lt))
    ∙ sym (filter-append p (map (bit_of a) (range_with_len 0 n)) later)

in_row : (q : Bit → Bool) (w k a n : ℕ) → a ≤ k → k < a + n → q (bit_of w k) ≡ true → list_any q (map (bit_of w) (range_with_len a n)) ≡ true
in_row q w k a zero low high e = absurd (omega arith)
in_row q w k a (suc n) low high e = elim (cases_lt a k) [
  | inl lt ↦ or_right (q (bit_of w a)) _ (in_row q w k (a + 1) n (omega arith) (omega arith) e)
  | inr le ↦ let here : k ≡ a = omega arith in let first : q (bit_of w a) ≡ true = ap (λ (j : ℕ). q (bit_of w j)) (sym here) ∙ e in ap (λ (b : Bool). b || list_any q (map (bit_of w) (range_with_len (a + 1) n))) first
]

in_rows : (q : Bit → Bool) (w k n a m : ℕ) → a ≤ w → w < a + m → k < n → q (bit_of w k) ≡ true → list_any q (flat_map (λ v. map (bit_of v) (range_with_len 0 n)) (range_with_len a m)) ≡ true
in_rows q w k n a zero low high lt e = absurd (omega arith)
in_rows q w k n a (suc m) low high lt e =
    let row : List Bit = map (bit_of a) (range_with_len 0 n) in
    let later : List Bit = flat_map (λ v. map (bit_of v) (range_with_len 0 n)) (range_with_len (a + 1) m) in
    list_any-append q row later ∙ elim (cases_lt a w) [
      | inl above ↦ or_right (list_any q row) (list_any q later) (in_rows q w k n (a + 1) m (omega arith) (omega arith) lt e)
      | inr le ↦
          let here : w ≡ a = omega arith in
          let first : list_any q row ≡ true = in_row q a k 0 n (omega arith) (omega arith) (ap (λ (v : ℕ). q (bit_of v k)) (sym here) ∙ e) in
          ap (λ (b : Bool). b || list_any q later) first
    ]

-- ---- points are known by their names

-- two places of a list without repeats that have the same are one place
one_place : {X : Type 0} (eq : X → X → Bool) (xs : List X) (i j : ℕ) (d : X) → ((x y : X) → eq x y ≡ eq y x) → IsDistinct eq xs → i < length xs → j < length xs → eq (get_or xs i d) (get_or xs j d) ≡ true → i ≡ j
one_place eq xs i j d symmetric differ i_lt j_lt same = elim (cases_lt i j) [
  | inl lt ↦ absurd (both_ways (eq (get_or xs i d) (get_or xs j d)) (apart_from_distinct eq xs i j d differ lt j_lt) same)
  | inr le ↦ elim (cases_lt j i) [
    | inl lt ↦ absurd (both_ways (eq (get_or xs j d) (get_or xs i d)) (apart_from_distinct eq xs j i d differ lt i_lt) (symmetric (get_or xs j d) (get_or xs i d) ∙ same))
    | inr ge ↦ omega arith
  ]
]

eqb-sym : (m n : ℕ) → eqb m n ≡ eqb n m
eqb-sym m n = elim (cases_Bool (eqb m n)) [
  | inl e ↦ e ∙ sym (eq-eqb n m (sym (eqb-true m n e)))
  | inr e ↦ elim (cases_Bool (eqb n m)) [
    | inl back ↦ absurd (both_ways (eqb m n) e (eq-eqb m n (sym (eqb-true n m back))))
    | inr none ↦ e ∙ sym none
  ]
]

module _ (t : ScanTest) (sound : IsScanTest t) (design die : List ℕ) where
  output_known : (i j : ℕ) → i < length t.netlist.outputs → j < length t.netlist.outputs → bytes_eq (name_of t (get_or t.netlist.outputs i 0)) (get_or (map (name_of t) t.netlist.outputs) j []) ≡ true → j ≡ i
  output_known i j i_lt j_lt same =
      let outputs : List ℕ = t.netlist.outputs in
      let names : List (List ℕ) = map (λ n. n.name) t.netlist.nets in
      let many : length names ≡ length t.netlist.nets = length-map t.netlist.nets (λ n. n.name) in
      let net : (k : ℕ) → k < length outputs → get_or outputs k 0 < length t.netlist.nets = λ k lt. output_in_range t.netlist k sound.circuit.netlist lt in
      let name : (k : ℕ) → k < length outputs → name_of t (get_or outputs k 0) ≡ get_or names (get_or outputs k 0) [] = λ k lt. sym (get_or-map (λ n. n.name) t.netlist.nets (get_or outputs k 0) no_net [] (net k lt)) in
      let there : get_or (map (name_of t) outputs) j [] ≡ get_or names (get_or outputs j 0) [] = get_or-map (name_of t) outputs j 0 [] j_lt ∙ name j j_lt in
      let both : bytes_eq (get_or names (get_or outputs j 0) []) (get_or names (get_or outputs i 0) []) ≡ true =
      (bytes_decides (get_or names (get_or outputs j 0) []) (get_or names (get_or outputs i 0) [])).1 (sym there ∙ sym ((bytes_decides (name_of t (get_or outputs i 0)) (get_or (map (name_of t) outputs) j [])).0 same) ∙ name i i_lt) in
      let nets : get_or outputs j 0 ≡ get_or outputs i 0 =
      one_place bytes_eq names (get_or outputs j 0) (get_or outputs i 0) [] nat_list_eq_equiv.symm sound.circuit.names_differ (omega (arith, many, net j j_lt)) (omega (arith, many, net i i_lt)) both in
      one_place nat_eq outputs j i 0 eqb-sym sound.circuit.outputs_differ j_lt i_lt (eq-eqb (get_or outputs j 0) (get_or outputs i 0) nets)

  chain_known : (g h : ℕ) → g < length t.chains → h < length t.chains → bytes_eq (chain_at t g).name (get_or (map (λ c. c.name) t.chains) h []) ≡ true → h ≡ g
  chain_known g h g_lt h_lt same =
      let names : List (List ℕ) = map (λ c. c.name) t.chains in
      let many : length names ≡ length t.chains = length-map t.chains (λ c. c.name) in
      let own : (chain_at t g).name ≡ get_or names g [] = sym (get_or-map (λ c. c.name) t.chains g no_chain [] g_lt) in
      let both : bytes_eq (get_or names h []) (get_or names g []) ≡ true = (bytes_decides (get_or names h []) (get_or names g [])).1 (sym ((bytes_decides (chain_at t g).name (get_or names h [])).0 same) ∙ own) in
      one_place bytes_eq names h g [] nat_list_eq_equiv.symm sound.chains.names_differ (omega (arith, many, h_lt)) (omega (arith, many, g_lt)) both

  abbrev frame : LogFrame
  frame = log_frame t design die

  -- a line that names a point names itself, and no other point
  names_one : (w : ℕ) (s r : Point) → IsPoint t s → IsPoint t r → names_point frame s (point_form t w r) ≡ true → s ≡ r
  names_one w (Output j) (Output i) s_in r_in e = ap Output (output_known i j r_in s_in e)
  names_one w (Output j) (Cell g i) s_in r_in e = absurd (let bad : false ≡ true = e in cc)
  names_one w (Cell h i) (Output j) s_in r_in e = absurd (let bad : false ≡ true = e in cc)
  names_one w (Cell h i) (Cell g k) s_in r_in e =
      let chain : h ≡ g = chain_known g h r_in.0 s_in.0 (left_true _ (eqb (unwrap_or (number_of (decimal k)) 0) i) e) in
      let number : unwrap_or (number_of (decimal k)) 0 ≡ k = ap (λ (o : Option ℕ). unwrap_or o 0) (number_back k (omega (arith, r_in.1, cells_short t sound g r_in.0))) in
      let place : i ≡ k = sym (sym number ∙ eqb-true (unwrap_or (number_of (decimal k)) 0) i (right_true (bytes_eq (chain_at t g).name (get_or (map (λ c. c.name) t.chains) h [])) _ e)) in
      λ x. Cell (chain x) (place x)

  names_self : (w : ℕ) (s : Point) → IsPoint t s → names_point frame s (point_form t w s) ≡ true
  names_self w (Output k) within =
      (bytes_decides (name_of t (get_or t.netlist.outputs k 0)) (get_or (map (name_of t) t.netlist.outputs) k [])).1 (sym (get_or-map (name_of t) t.netlist.outputs k 0 [] within))
  names_self w (Cell h i) within =
      let number : unwrap_or (number_of (decimal i)) 0 ≡ i = ap (λ (o : Option ℕ). unwrap_or o 0) (number_back i (omega (arith, within.1, cells_short t sound h within.0))) in
      both_true (bytes_eq (chain_at t h).name (get_or (map (λ c. c.name) t.chains) h [])) (eqb (unwrap_or (number_of (decimal i)) 0) i)
      ((bytes_decides (chain_at t h).name (get_or (map (λ c. c.name) t.chains) h [])).1 (sym (get_or-map (λ c. c.name) t.chains h no_chain [] within.0)))
      (eq-eqb (unwrap_or (number_of (decimal i)) 0) i number)

  -- ---- fail lines

  abbrev names_bit : ℕ → Point → LogLine → Bool
  names_bit p s l = list_any (λ q. eqb q p) (filter_map pattern_named (l ∷ [])) && names_point frame s l

  names_bit-is : (p w : ℕ) (s r : Point) → w < 4294967296 → names_bit p s (point_form t w r) ≡ (eqb w p && names_point frame s (point_form t w r))
  names_bit-is p w s (Output k) small =
      let l : LogLine = point_form t w (Output k) in
      ap (λ (o : Option ℕ). list_any (λ q. eqb q p) (cons_option o []) && names_point frame s l) (number_back w small) ∙ ap (λ (b : Bool). b && names_point frame s l) (or_false (eqb w p))
  names_bit-is p w s (Cell h i) small =
      let l : LogLine = point_form t w (Cell h i) in
      ap (λ (o : Option ℕ). list_any (λ q. eqb q p) (cons_option o []) && names_point frame s l) (number_back w small) ∙ ap (λ (b : Bool). b && names_point frame s l) (or_false (eqb w p))

  module _ (f : Fault) (p k : ℕ) (p_lt : p < length t.patterns) (k_lt : k < length (points_of t)) where
    abbrev s : Point
    s = point_at t k

    s_in : IsPoint t s
    s_in = points_are_points t k (Output 0) k_lt

    abbrev forms_after : List Bit → List LogLine
    forms_after bits = map (fail_form t) bits ++ end_line ∷ []

    own_named : names_bit p s (fail_form t (bit_of p k)) ≡ true
    own_named = names_bit-is p p s s (omega (arith, p_lt, sound.patterns.few)) ∙ both_true (eqb p p) (names_point frame s (point_form t p s)) (eq-eqb p p refl) (names_self p s s_in)

    found : (bits : List Bit) → list_any (same_bit (bit_of p k)) bits ≡ true → list_any (names_bit p s) (forms_after bits) ≡ true
    found [] some = absurd (let bad : false ≡ true = some in cc)
    found (b ∷ bits) some = elim (cases_Bool (same_bit (bit_of p k) b)) [
      | inl same ↦
          let here : names_bit p s (fail_form t b) ≡ true = ap (λ (x : Bit). names_bit p s (fail_form t x)) (sym (same_bit-is (bit_of p k) b same)) ∙ own_named in
          ap (λ (x : Bool). x || list_any (names_bit p s) (forms_after bits)) here
      | inr other ↦ or_right (names_bit p s (fail_form t b)) (list_any (names_bit p s) (forms_after bits)) (found bits (ap (λ (x : Bool). x || list_any (same_bit (bit_of p k)) bits) (sym other) ∙ some))
    ]

    not_named : predicts_fail t f (bit_of p k) ≡ false → (b : Bit) → IsListed t f b → names_bit p s (fail_form t b) ≡ false
    not_named passes b listed = elim (cases_Bool (names_bit p s (fail_form t b))) [
      | inl named ↦
          let r : Point = point_at t b.point in
          let both : (eqb b.pattern p && names_point frame s (point_form t b.pattern r)) ≡ true = sym (names_bit-is p b.pattern s r (omega (arith, listed.0.0, sound.patterns.few))) ∙ named in
          let pattern : b.pattern ≡ p = eqb-true b.pattern p (left_true (eqb b.pattern p) (names_point frame s (point_form t b.pattern r)) both) in
          let point : s ≡ r = names_one b.pattern s r s_in (points_are_points t b.point (Output 0) listed.0.1) (right_true (eqb b.pattern p) (names_point frame s (point_form t b.pattern r)) both) in
          let fails : predicts_fail t f (bit_of p k) ≡ true =
          predicts_is t f (bit_of p k) k_lt ∙ ap (λ (w : ℕ). predicts_at t f w s) (sym pattern) ∙ ap (λ (x : Point). predicts_at t f b.pattern x) point ∙ sym (predicts_is t f b listed.0.1) ∙ listed.1 in
          absurd (both_ways (predicts_fail t f (bit_of p k)) passes fails)
      | inr none ↦ none
    ]

    none_found : predicts_fail t f (bit_of p k) ≡ false → (bits : List Bit) → AllByRecursion (IsListed t f) bits → list_any (names_bit p s) (forms_after bits) ≡ false
    none_found passes [] all = refl
    none_found passes (b ∷ bits) all = ap (λ (x : Bool). x || list_any (names_bit p s) (forms_after bits)) (not_named passes b all.0) ∙ none_found passes bits all.1

    -- exactly the predicted fails are listed
    pub listed_is : is_listed frame (header_forms design die (last_pattern t) ++ forms_after (predicted_bits t f)) p s ≡ predicts_fail t f (bit_of p k)
    listed_is = elim (cases_Bool (predicts_fail t f (bit_of p k))) [
      | inl fails ↦
          let there : list_any (same_bit (bit_of p k)) (predicted_bits t f) ≡ true =
          any_filter (same_bit (bit_of p k)) (predicts_fail t f) (bits_of t)
          ∙ in_rows (λ x. predicts_fail t f x && same_bit (bit_of p k) x) p k (length (points_of t)) 0 (length t.patterns) (omega arith) (omega (arith, p_lt)) k_lt
          (both_true (predicts_fail t f (bit_of p k)) (same_bit (bit_of p k) (bit_of p k)) fails (same_bit-self (bit_of p k))) in
          found (predicted_bits t f) there ∙ sym fails
      | inr passes ↦ none_found passes (predicted_bits t f) (all_listed t f) ∙ sym passes
    ]

  pub bits_back : (f : Fault) → bits_listed frame (header_forms design die (last_pattern t) ++ (map (fail_form t) (predicted_bits t f) ++ end_line ∷ [])) ≡ predicted_bits t f
  bits_back f =
      let forms : List LogLine = header_forms design die (last_pattern t) ++ (map (fail_form t) (predicted_bits t f) ++ end_line ∷ []) in
      ap (λ (n : ℕ). flat_map (points_listed frame forms) (range_with_len 0 n)) (length-map t.patterns is_shift)
      ∙ rows_kept (λ w k. is_listed frame forms w (point_at t k)) (predicts_fail t f) (length (points_of t)) 0 (length t.patterns) (λ w k w_lt k_lt. listed_is f w k (omega (arith, w_lt)) k_lt)
