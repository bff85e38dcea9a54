-- The netlist that the generator makes breaks no rule: the circuit that it stands for, its nets, its cells and its inputs.
use Rattle.std.proofs.Common.{◌≡◌, ℕ, ◌+◌, ◌*◌, ◌<◌, ◌≤◌, Bool, true, false, ◌||◌, List, [], ◌∷◌, ◌++◌, length, map, Ok, refl, sym, ap, ◌∙◌, length-append, arith}
use Rattle.std.specs.Prelude.{flat_map}
use Rattle.std.specs.List.{AllByRecursion, list_any, range_with_len}
use Rattle.std.specs.Str.{bytes_eq}
use Rattle.std.specs.Cmp.Lexicographic.{nat_list_eq_equiv}
use Rattle.std.proofs.lemmas.List.{length-map, map-append}
use Rattle.std.proofs.lemmas.List.Concat.{flat_map-append}
use Rattle.std.proofs.lemmas.List.Folds.{list_any-append}
use Rattle.scan_model.specs.Words.{has_word}
use Rattle.scan_model.specs.Netlist.{Netlist}
use Rattle.scan_model.specs.ScanText.{net_names, is_net, is_flop_net}
use Rattle.scan_model.specs.NetlistRules.{nets_of, defined_names}
use Rattle.scan_model.specs.NetlistText.{net_number, inputs_of, circuit_in, netlist_reading}
use Rattle.made_laws.specs.Draws.{draw}
use Rattle.made_laws.specs.MadeNetlist.{input_name, cell_name, gate_name, operand_name, gate_draw, made_netlist}
use Rattle.made_laws.proofs.Plans.{Plan, an_input, an_output, a_cell, planned, IsKnown}
use Rattle.made_laws.proofs.MadeNames.{net_key, gate_key}
use Rattle.made_laws.proofs.PlanRanges.{any_left, any_right, any_range, all_append, all_range, size_range}
use Rattle.made_laws.proofs.NetRounds.{names_in}
use Rattle.made_laws.proofs.NetCircuit as of_lines
use Rattle.made_laws.proofs.MadeText.{made_lines}
use Rattle.made_laws.proofs.MadePlans.{gate_plan, drawn_plan, input_plans, output_plans, cell_plans, gate_plans, made_plans, made_numbered, drawn_below, of_operand}

-- ---- the nets that are defined

-- the line defines the net
abbrev Defines : List ℕ → Plan → Bool
Defines w p = has_word (nets_of (planned p)) w

named_by : (ps : List Plan) (w : List ℕ) → list_any (Defines w) ps ≡ has_word (names_in ps) w
named_by [] w = refl
named_by (p ∷ ps) w = ap (λ b. Defines w p || b) (named_by ps w) ∙ sym (list_any-append (bytes_eq w) (nets_of (planned p)) (names_in ps))

itself : (w : List ℕ) → ((bytes_eq w w || false) || false) ≡ true
itself w = rw (nat_list_eq_equiv.refl w) refl

module _ (seed blocks b : ℕ) (lt : b < blocks) where
  abbrev names : List (List ℕ)
  names = names_in (made_plans seed blocks)

  blocks_define : (w : List ℕ) → list_any (Defines w) (cell_plans b ++ gate_plans seed b) ≡ true → has_word names w ≡ true
  blocks_define w here =
      sym (named_by (made_plans seed blocks) w)
      ∙ any_right (Defines w) (flat_map input_plans (range_with_len 0 blocks)) _
      (any_right (Defines w) (flat_map output_plans (range_with_len 0 blocks)) _ (any_range (Defines w) (λ b. cell_plans b ++ gate_plans seed b) 0 blocks b (omega arith) (omega arith) here))

  pub input_there : (j : ℕ) → j < 10 → has_word names (input_name b j) ≡ true
  input_there j low =
      let w : List ℕ = input_name b j in
      sym (named_by (made_plans seed blocks) w)
      ∙ any_left (Defines w) (flat_map input_plans (range_with_len 0 blocks)) _
      (any_range (Defines w) input_plans 0 blocks b (omega arith) (omega arith) (any_range (Defines w) (λ i. an_input (input_name b i) ∷ []) 0 10 j (omega arith) (omega arith) (itself w)))

  pub cell_there : (j : ℕ) → j < 5 → has_word names (cell_name b j) ≡ true
  cell_there j low =
      let w : List ℕ = cell_name b j in
      blocks_define w (any_left (Defines w) (cell_plans b) (gate_plans seed b) (any_range (Defines w) (λ i. a_cell (cell_name b i) (gate_name b (95 + i)) ∷ []) 0 5 j (omega arith) (omega arith) (itself w)))

  pub gate_there : (k : ℕ) → k < 100 → has_word names (gate_name b k) ≡ true
  gate_there k low =
      let w : List ℕ = gate_name b k in
      blocks_define w (any_right (Defines w) (cell_plans b) (gate_plans seed b) (any_range (Defines w) (λ i. drawn_plan seed b i ∷ []) 0 100 k (omega arith) (omega arith) (itself w)))

  operand_there : (m k : ℕ) → k < 100 → m < 15 + k → has_word names (operand_name b m) ≡ true
  operand_there m k small low = of_operand (λ n. has_word names n ≡ true) b m k low input_there cell_there (λ j below. gate_there j (omega arith))

  inputs_known : AllByRecursion (IsKnown names) (input_plans b)
  inputs_known = all_range (IsKnown names) (λ j. an_input (input_name b j) ∷ []) 0 10 (λ j low high. (((input_there j high, tt), tt), tt))

  outputs_known : AllByRecursion (IsKnown names) (output_plans b)
  outputs_known = all_range (IsKnown names) (λ k. an_output (gate_name b k) ∷ []) 90 5 (λ k low high. ((tt, (gate_there k (omega arith), tt)), tt))

  cells_known : AllByRecursion (IsKnown names) (cell_plans b)
  cells_known = all_range (IsKnown names) (λ j. a_cell (cell_name b j) (gate_name b (95 + j)) ∷ []) 0 5 (λ j low high. (((cell_there j high, tt), (gate_there (95 + j) (omega arith), tt)), tt))

  gate_known : (k w u v : ℕ) → k < 100 → u < 15 + k → v < 15 + k → AllByRecursion (IsKnown names) (gate_plan b k w u v ∷ [])
  gate_known k w u v small first second = (((gate_there k small, tt), (operand_there u k small first, (operand_there v k small second, tt))), tt)

  gates_known : AllByRecursion (IsKnown names) (gate_plans seed b)
  gates_known = all_range (IsKnown names) (λ k. drawn_plan seed b k ∷ []) 0 100
      (λ k low high. gate_known k (draw seed (gate_draw b k) 6) (draw seed (gate_draw b k + 1) (15 + k)) (draw seed (gate_draw b k + 2) (15 + k)) high
      (drawn_below seed (gate_draw b k + 1) (15 + k) (omega arith)) (drawn_below seed (gate_draw b k + 2) (15 + k) (omega arith)))

-- ---- how many

count_append : (xs ys : List Plan) → length (xs ++ ys) ≡ length xs + length ys
count_append xs ys = length-append xs ys

-- the inputs that lines name
abbrev inputs_in : List Plan → ℕ
inputs_in ps = length (flat_map inputs_of (map planned ps))

inputs_append : (xs ys : List Plan) → inputs_in (xs ++ ys) ≡ inputs_in xs + inputs_in ys
inputs_append xs ys =
    ap length (ap (flat_map inputs_of) (map-append planned xs ys) ∙ flat_map-append inputs_of (map planned xs) (map planned ys)) ∙ length-append (flat_map inputs_of (map planned xs)) (flat_map inputs_of (map planned ys))

module _ (seed blocks : ℕ) where
  input_total : inputs_in (made_plans seed blocks) ≡ 10 * blocks
  input_total =
      let inputs : (b : ℕ) → 0 + inputs_in (input_plans b) ≡ 0 + 10 = λ b. size_range inputs_in refl inputs_append (λ j. an_input (input_name b j) ∷ []) (λ j. j) 0 10 (λ j. refl) in
      let outputs : (b : ℕ) → 0 + inputs_in (output_plans b) ≡ 0 = λ b. size_range inputs_in refl inputs_append (λ k. an_output (gate_name b k) ∷ []) (λ k. 0) 90 5 (λ k. refl) in
      let cells : (b : ℕ) → 0 + inputs_in (cell_plans b) ≡ 0 = λ b. size_range inputs_in refl inputs_append (λ j. a_cell (cell_name b j) (gate_name b (95 + j)) ∷ []) (λ k. 0) 0 5 (λ k. refl) in
      let gates : (b : ℕ) → 0 + inputs_in (gate_plans seed b) ≡ 0 = λ b. size_range inputs_in refl inputs_append (λ k. drawn_plan seed b k ∷ []) (λ k. 0) 0 100 (λ k. refl) in
      let first : 10 * 0 + inputs_in (flat_map input_plans (range_with_len 0 blocks)) ≡ 10 * (0 + blocks) = size_range inputs_in refl inputs_append input_plans (λ b. 10 * b) 0 blocks (λ b. omega (arith, inputs b)) in
      let second : 0 + inputs_in (flat_map output_plans (range_with_len 0 blocks)) ≡ 0 = size_range inputs_in refl inputs_append output_plans (λ b. 0) 0 blocks (λ b. outputs b) in
      let third : 0 + inputs_in (flat_map (λ b. cell_plans b ++ gate_plans seed b) (range_with_len 0 blocks)) ≡ 0 =
      size_range inputs_in refl inputs_append (λ b. cell_plans b ++ gate_plans seed b) (λ b. 0) 0 blocks (λ b. omega (arith, inputs_append (cell_plans b) (gate_plans seed b), cells b, gates b)) in
      omega (
        arith,
        first,
        second,
        third,
        inputs_append (flat_map input_plans (range_with_len 0 blocks)) (flat_map output_plans (range_with_len 0 blocks) ++ flat_map (λ b. cell_plans b ++ gate_plans seed b) (range_with_len 0 blocks)),
        inputs_append (flat_map output_plans (range_with_len 0 blocks)) (flat_map (λ b. cell_plans b ++ gate_plans seed b) (range_with_len 0 blocks)),
      )

  line_total : length (made_plans seed blocks) ≡ 120 * blocks
  line_total =
      let inputs : (b : ℕ) → 0 + length (input_plans b) ≡ 0 + 10 = λ b. size_range (λ ps. length ps) refl count_append (λ j. an_input (input_name b j) ∷ []) (λ j. j) 0 10 (λ j. refl) in
      let outputs : (b : ℕ) → 90 + length (output_plans b) ≡ 90 + 5 = λ b. size_range (λ ps. length ps) refl count_append (λ k. an_output (gate_name b k) ∷ []) (λ k. k) 90 5 (λ k. refl) in
      let cells : (b : ℕ) → 0 + length (cell_plans b) ≡ 0 + 5 = λ b. size_range (λ ps. length ps) refl count_append (λ j. a_cell (cell_name b j) (gate_name b (95 + j)) ∷ []) (λ k. k) 0 5 (λ k. refl) in
      let gates : (b : ℕ) → 0 + length (gate_plans seed b) ≡ 0 + 100 = λ b. size_range (λ ps. length ps) refl count_append (λ k. drawn_plan seed b k ∷ []) (λ k. k) 0 100 (λ k. refl) in
      let first : 10 * 0 + length (flat_map input_plans (range_with_len 0 blocks)) ≡ 10 * (0 + blocks) = size_range (λ ps. length ps) refl count_append input_plans (λ b. 10 * b) 0 blocks (λ b. omega (arith, inputs b)) in
      let second : 5 * 0 + length (flat_map output_plans (range_with_len 0 blocks)) ≡ 5 * (0 + blocks) = size_range (λ ps. length ps) refl count_append output_plans (λ b. 5 * b) 0 blocks (λ b. omega (arith, outputs b)) in
      let third : 105 * 0 + length (flat_map (λ b. cell_plans b ++ gate_plans seed b) (range_with_len 0 blocks)) ≡ 105 * (0 + blocks) =
      size_range (λ ps. length ps) refl count_append (λ b. cell_plans b ++ gate_plans seed b) (λ b. 105 * b) 0 blocks (λ b. omega (arith, count_append (cell_plans b) (gate_plans seed b), cells b, gates b)) in
      omega (
        arith,
        first,
        second,
        third,
        count_append (flat_map input_plans (range_with_len 0 blocks)) (flat_map output_plans (range_with_len 0 blocks) ++ flat_map (λ b. cell_plans b ++ gate_plans seed b) (range_with_len 0 blocks)),
        count_append (flat_map output_plans (range_with_len 0 blocks)) (flat_map (λ b. cell_plans b ++ gate_plans seed b) (range_with_len 0 blocks)),
      )

-- ---- what it stands for

-- the circuit of the lines that are made
abbrev pub made_circuit : ℕ → ℕ → Netlist
made_circuit seed blocks = circuit_in (map planned (made_plans seed blocks))

module _ (seed blocks : ℕ) (few : blocks ≤ 200) where
  abbrev made_names : List (List ℕ)
  made_names = names_in (made_plans seed blocks)

  few_lines : length (made_plans seed blocks) ≤ 60000
  few_lines = omega (arith, line_total seed blocks)

  all_known : AllByRecursion (IsKnown made_names) (made_plans seed blocks)
  all_known =
      all_append (IsKnown made_names) (flat_map input_plans (range_with_len 0 blocks)) _ (all_range (IsKnown made_names) input_plans 0 blocks (λ b low high. inputs_known seed blocks b (omega arith)))
      (all_append (IsKnown made_names) (flat_map output_plans (range_with_len 0 blocks)) _ (all_range (IsKnown made_names) output_plans 0 blocks (λ b low high. outputs_known seed blocks b (omega arith)))
      (all_range (IsKnown made_names) (λ b. cell_plans b ++ gate_plans seed b) 0 blocks
      (λ b low high. all_append (IsKnown made_names) (cell_plans b) (gate_plans seed b) (cells_known seed blocks b (omega arith)) (gates_known seed blocks b (omega arith)))))

  pub netlist_stands : netlist_reading (made_netlist seed blocks) ≡ Ok (made_circuit seed blocks)
  netlist_stands =
      of_lines.netlist_read (net_key blocks) (made_plans seed blocks) (115 * blocks) few_lines (made_numbered seed blocks few) all_known (made_netlist seed blocks) (made_lines seed blocks few)

  pub input_count : length (made_circuit seed blocks).inputs ≡ 10 * blocks
  input_count = length-map (flat_map inputs_of (map planned (made_plans seed blocks))) (net_number (defined_names (map planned (made_plans seed blocks)))) ∙ input_total seed blocks

  pub cell_is_net : (b j : ℕ) → b < blocks → j < 5 → is_net (made_circuit seed blocks).nets (cell_name b j) ≡ true
  cell_is_net b j lt low = of_lines.net_there (net_key blocks) (made_plans seed blocks) (115 * blocks) few_lines (made_numbered seed blocks few) all_known (cell_name b j) (cell_there seed blocks b lt j low)

  pub cell_is_flop : (b j : ℕ) → b < blocks → j < 5 → is_flop_net (made_circuit seed blocks).nets (cell_name b j) ≡ true
  cell_is_flop b j lt low = of_lines.cell_there (net_key blocks) (made_plans seed blocks) (115 * blocks) few_lines (made_numbered seed blocks few) all_known (cell_name b j) (cell_there seed blocks b lt j low) refl

  names_are : net_names (made_circuit seed blocks).nets ≡ made_names
  names_are = of_lines.names_are (net_key blocks) (made_plans seed blocks) (115 * blocks) few_lines (made_numbered seed blocks few) all_known

  pub gate_is_net : (b k : ℕ) → b < blocks → k < 100 → has_word (net_names (made_circuit seed blocks).nets) (gate_name b k) ≡ true
  gate_is_net b k lt low = ap (λ (ns : List (List ℕ)). has_word ns (gate_name b k)) names_are ∙ gate_there seed blocks b lt k low

  pub gate_number : (b k : ℕ) → b < blocks → k < 100 → net_number (net_names (made_circuit seed blocks).nets) (gate_name b k) ≡ 10 * blocks + (105 * b + (5 + k))
  gate_number b k lt low =
      ap (λ (ns : List (List ℕ)). net_number ns (gate_name b k)) names_are
      ∙ of_lines.number_there (net_key blocks) (made_plans seed blocks) (115 * blocks) few_lines (made_numbered seed blocks few) all_known (gate_name b k) (gate_there seed blocks b lt k low)
      ∙ gate_key blocks b k (omega arith) (omega arith)
