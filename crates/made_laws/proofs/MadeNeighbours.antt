-- The list of neighbours that the generator makes breaks no rule.
use Rattle.std.proofs.Common.{◌≡◌, ℕ, zero, suc, ◌+◌, ◌-◌, ◌*◌, ◌<◌, ◌≤◌, Bool, true, false, not, cond, eqb, leb, List, [], ◌∷◌, ◌++◌, length, map, get_or, is_none, Option, Some, None, Ok, refl, sym, ap, ap₂, ◌∙◌, length-append, arith}
use Rattle.std.specs.Prelude.{codes}
use Rattle.std.specs.List.{AllByRecursion, range_with_len}
use Rattle.std.proofs.lemmas.Bool.{and_right}
use Rattle.std.proofs.lemmas.Bool.Decides.{nat_tests}
use Rattle.std.proofs.lemmas.List.{length-map}
use Rattle.std.proofs.lemmas.List.FromFn.{length-range_with_len}
use Rattle.csv.specs.Reading.{default_config, records, strip_bom}
use Rattle.scan_model.specs.declared.parts.Pair.{Pair}
use Rattle.scan_model.specs.declared.parts.Pairs.{Pairs}
use Rattle.scan_model.specs.Words.{has_word}
use Rattle.scan_model.specs.TextFaults.{lowest, fault_from, refused_or}
use Rattle.scan_model.specs.declared.rules.TheConstants.{OTHER_PAIR_FORM, NAMES_NO_NET, NAMES_ONE_NET, TOO_MANY_PAIRS}
use Rattle.scan_model.specs.Netlist.{Netlist}
use Rattle.scan_model.specs.ScanText.{net_names}
use Rattle.scan_model.specs.NetlistText.{net_number}
use Rattle.scan_model.proofs.FaultSteps.{fault_from_none}
use Rattle.bridge_pairs.specs.PairText.{TwoNames, two_names, nets_named, numbered, is_named, with_pair, pairs_before, pairs_in, names_no_net, names_one_net, names_too_many, is_header, pair_rule, pairs_fault, records_in, record_at, trimmed, parted, pairs_reading}
use Rattle.made_laws.specs.MadeNetlist.{gate_name}
use Rattle.made_laws.specs.MadePairs.{made_pairs}
use Rattle.made_laws.proofs.MadeNames.{is_name}
use Rattle.made_laws.proofs.WordTexts.{all_map_range, map_twice, at_range, flat_map_range}
use Rattle.made_laws.proofs.CsvRows.{cells_of, row_text, IsCell, IsRow, rows_text, rows_read, ended_is, all_trimmed}

-- ---- the records

abbrev header : TwoNames
header = record { a = codes "net_a"; b = codes "net_b" }

abbrev pair_row : ℕ → TwoNames
pair_row b = record { a = gate_name b 50; b = gate_name (b + 1) 50 }

abbrev pair_rows : ℕ → List TwoNames
pair_rows blocks = header ∷ map pair_row (range_with_len 0 (blocks - 1))

text_is : (blocks : ℕ) → rows_text (pair_rows blocks) ≡ made_pairs blocks
text_is blocks = ap (λ (bs : List ℕ). codes "net_a,net_b\n" ++ bs) (flat_map_range row_text pair_row 0 (blocks - 1))

cell : (b : ℕ) → b < 1000 → IsCell (gate_name b 50)
cell b few = let name = is_name 103 b 50 few (omega arith) refl in record { some = name.some; bytes = name.bytes }

module _ (blocks : ℕ) (few : blocks ≤ 200) where
  are_rows : AllByRecursion IsRow (pair_rows blocks)
  are_rows = (
    (record { some = omega arith; bytes = refl }, record { some = omega arith; bytes = refl }),
    all_map_range IsRow pair_row 0 (blocks - 1) (λ b low high. (cell b (omega arith), cell (b + 1) (omega arith))),
  )

  no_mark : strip_bom (rows_text (pair_rows blocks)) ≡ rows_text (pair_rows blocks)
  unfolding strip_bom
  no_mark = refl

  records_are : records_in (made_pairs blocks) ≡ map cells_of (pair_rows blocks)
  records_are =
      ap records_in (sym (text_is blocks))
      ∙ ap (λ (bs : List ℕ). map (map trimmed) (records default_config (strip_bom bs))) (ended_is (pair_rows blocks))
      ∙ ap (λ (bs : List ℕ). map (map trimmed) (records default_config bs)) no_mark
      ∙ ap (map (map trimmed)) (rows_read (pair_rows blocks) are_rows) ∙ all_trimmed (pair_rows blocks) are_rows

  -- ---- rules

  more_pairs : (names : List (List ℕ)) (seen : List Pair) (i : ℕ) (o : Option TwoNames) → length (with_pair names seen i o) ≤ length seen + 1
  more_pairs names seen i None = omega arith
  more_pairs names seen i (Some n) = go (is_named seen (numbered names i n))
    where
      go : (b : Bool) → length (cond b seen (seen ++ numbered names i n ∷ [])) ≤ length seen + 1
      go true = omega arith
      go false = omega (arith, length-append seen (numbered names i n ∷ []))

  few_pairs : (names : List (List ℕ)) (rows : List (List (List ℕ))) (i : ℕ) → length (pairs_before names rows i) ≤ i
  few_pairs names rows zero = omega arith
  few_pairs names rows (suc i) = omega (arith, few_pairs names rows i, more_pairs names (pairs_before names rows i) i (nets_named i (record_at rows i)))

  none_of_four : (p q r s : Bool) → p ≡ false → q ≡ false → r ≡ false → s ≡ false → lowest ((OTHER_PAIR_FORM, p) ∷ (NAMES_NO_NET, q) ∷ (NAMES_ONE_NET, r) ∷ (TOO_MANY_PAIRS, s) ∷ []) ≡ None
  none_of_four p q r s a b c d = rw (a, b, c, d) refl

  module _ (names : List (List ℕ)) (there : (b : ℕ) → b < blocks → has_word names (gate_name b 50) ≡ true)
      (number : (b : ℕ) → b < blocks → net_number names (gate_name b 50) ≡ 10 * blocks + (105 * b + 55)) where
    abbrev rows : List (List (List ℕ))
    rows = map cells_of (pair_rows blocks)

    -- the rules at a record after the first
    abbrev table : List Pair → ℕ → Bool → List (List ℕ) → List (ℕ × Bool)
    table seen i first fields =
        (OTHER_PAIR_FORM, cond first (not (is_header (two_names fields))) (is_none (two_names fields))) ∷
        (NAMES_NO_NET, names_no_net names (cond first None (two_names fields))) ∷
        (NAMES_ONE_NET, names_one_net names (cond first None (two_names fields))) ∷
        (TOO_MANY_PAIRS, names_too_many names seen i (cond first None (two_names fields))) ∷ []

    other_nets : (b : ℕ) → b + 1 < blocks → eqb (net_number names (gate_name b 50)) (net_number names (gate_name (b + 1) 50)) ≡ false
    other_nets b lt =
        let one = number b (omega arith) in
        let next = number (b + 1) lt in
        let less : net_number names (gate_name b 50) < net_number names (gate_name (b + 1) 50) = omega arith in
        grind (arith, nat_tests)

    row_passes : (seen : List Pair) (i b : ℕ) → length seen ≤ 1000 → b + 1 < blocks → lowest (table seen i false (cells_of (pair_row b))) ≡ None
    row_passes seen i b size lt =
        let room : leb 65536 (length seen) ≡ false = grind (arith, nat_tests) in
        none_of_four _ _ _ _ refl (rw (there b (omega arith), there (b + 1) lt) refl) (other_nets b lt) (and_right (not (is_named seen (numbered names i (pair_row b)))) (leb 65536 (length seen)) room)

    rule_passes : (i : ℕ) → i < blocks → pair_rule names rows i ≡ None
    rule_passes zero lt = refl
    rule_passes (suc i) lt =
        let later : eqb (suc i) 0 ≡ false = grind (arith, nat_tests) in
        let seen : List Pair = pairs_before names rows (suc i) in
        let e : 0 + i ≡ i = omega arith in
        let here : record_at rows (suc i) ≡ cells_of (pair_row i) = ap (λ (xs : List (List (List ℕ))). get_or xs i []) (map_twice cells_of pair_row 0 (blocks - 1)) ∙ at_range (λ b. cells_of (pair_row b)) [] 0 (blocks - 1) i (omega arith) ∙ ap (λ (b : ℕ). cells_of (pair_row b)) e in
        ap₂ (λ (b : Bool) (fields : List (List ℕ)). lowest (table seen (suc i) b fields)) later here ∙ row_passes seen (suc i) i (omega (arith, few_pairs names rows (suc i))) (omega arith)

    row_count : 0 < blocks → length rows ≡ blocks
    row_count some = omega (arith, length-map (pair_rows blocks) cells_of, length-map (range_with_len 0 (blocks - 1)) pair_row, length-range_with_len 0 (blocks - 1))

    none_broken : 0 < blocks → pairs_fault names rows ≡ None
    none_broken some = ap (fault_from (pair_rule names rows) 0) (row_count some) ∙ fault_from_none (pair_rule names rows) 0 blocks (λ k low high. rule_passes k (omega arith))

  pub neighbours_stand : (c : Netlist) → 0 < blocks → ((b : ℕ) → b < blocks → has_word (net_names c.nets) (gate_name b 50) ≡ true)
      → ((b : ℕ) → b < blocks → net_number (net_names c.nets) (gate_name b 50) ≡ 10 * blocks + (105 * b + 55)) → (pairs : Pairs) × (pairs_reading c (made_pairs blocks) ≡ Ok pairs)
  neighbours_stand c some there number = (
    parted c (pairs_in (net_names c.nets) (map cells_of (pair_rows blocks))),
    ap (λ (rs : List (List (List ℕ))). refused_or (pairs_fault (net_names c.nets) rs) (parted c (pairs_in (net_names c.nets) rs))) records_are
        ∙ ap (λ (o : Option (ℕ × ℕ)). refused_or o (parted c (pairs_in (net_names c.nets) (map cells_of (pair_rows blocks))))) (none_broken (net_names c.nets) there number some),
  )
