-- The lines of the netlist that the generator makes: their names, their numbers and their text.
use Rattle.std.proofs.Common.{◌≡◌, ℕ, zero, suc, ◌+◌, ◌-◌, ◌*◌, ◌<◌, ◌≤◌, Bool, true, false, cond, ltb, List, [], ◌∷◌, ◌++◌, refl, sym, ap, ap₂, subst, ◌∙◌, inl, inr, append_assoc, append-nil, arith}
use Rattle.std.specs.Prelude.{flat_map, codes}
use Rattle.std.specs.List.{range_with_len}
use Rattle.std.proofs.lemmas.Bool.{cases_lt}
use Rattle.std.proofs.lemmas.Bool.Decides.{nat_tests}
use Rattle.scan_model.specs.declared.circuit.GateKind.TheVariants.{And, Nand, Or, Nor, Xor, Xnor}
use Rattle.made_laws.specs.Draws.{draw}
use Rattle.made_laws.specs.MadeNetlist.{input_name, cell_name, gate_name, gate_word, operand_name, gate_draw, input_line, output_line, cell_line, drawn_gate, block_inputs, block_outputs, block_cells, block_gates, made_netlist}
use Rattle.made_laws.proofs.Plans.{Plan, an_input, an_output, a_cell, a_gate, IsNetName, IsGateWord, AreNumbered}
use Rattle.made_laws.proofs.NetForms.{text_of, text_append}
use Rattle.made_laws.proofs.MadeNames.{net_key, is_name, input_key, cell_key, gate_key}
use Rattle.made_laws.proofs.PlanRanges.{numbered_append, numbered_range, renumbered, text_range}

-- ---- lines

-- a gate of a block, by the numbers of its word and its operands
abbrev pub gate_plan : ℕ → ℕ → ℕ → ℕ → ℕ → Plan
gate_plan b k w u v = a_gate (gate_name b k) (gate_word w) (operand_name b u) (operand_name b v)

abbrev pub drawn_plan : ℕ → ℕ → ℕ → Plan
drawn_plan seed b k = gate_plan b k (draw seed (gate_draw b k) 6) (draw seed (gate_draw b k + 1) (15 + k)) (draw seed (gate_draw b k + 2) (15 + k))

abbrev pub input_plans : ℕ → List Plan
input_plans b = flat_map (λ j. an_input (input_name b j) ∷ []) (range_with_len 0 10)

abbrev pub output_plans : ℕ → List Plan
output_plans b = flat_map (λ k. an_output (gate_name b k) ∷ []) (range_with_len 90 5)

abbrev pub cell_plans : ℕ → List Plan
cell_plans b = flat_map (λ j. a_cell (cell_name b j) (gate_name b (95 + j)) ∷ []) (range_with_len 0 5)

abbrev pub gate_plans : ℕ → ℕ → List Plan
gate_plans seed b = flat_map (λ k. drawn_plan seed b k ∷ []) (range_with_len 0 100)

abbrev pub made_plans : ℕ → ℕ → List Plan
made_plans seed blocks =
    flat_map input_plans (range_with_len 0 blocks)
    ++ (flat_map output_plans (range_with_len 0 blocks)
    ++ flat_map (λ b. cell_plans b ++ gate_plans seed b) (range_with_len 0 blocks))

-- ---- their text

input_text : (n : List ℕ) → text_of (an_input n ∷ []) ≡ codes "INPUT(" ++ (n ++ codes ")\n")
input_text n = simp (append_assoc, append-nil)

output_text : (n : List ℕ) → text_of (an_output n ∷ []) ≡ codes "OUTPUT(" ++ (n ++ codes ")\n")
output_text n = simp (append_assoc, append-nil)

cell_text : (n o : List ℕ) → text_of (a_cell n o ∷ []) ≡ n ++ (codes " = DFF(" ++ (o ++ codes ")\n"))
cell_text n o = simp (append_assoc, append-nil)

gate_text : (n w u v : List ℕ) → text_of (a_gate n w u v ∷ []) ≡ n ++ (codes " = " ++ (w ++ (codes "(" ++ (u ++ (codes ", " ++ (v ++ codes ")\n"))))))
gate_text n w u v = simp (append_assoc, append-nil)

pub made_text : (seed blocks : ℕ) → text_of (made_plans seed blocks) ≡ made_netlist seed blocks
made_text seed blocks =
    let inputs : text_of (flat_map input_plans (range_with_len 0 blocks)) ≡ flat_map block_inputs (range_with_len 0 blocks) =
    text_range input_plans block_inputs (λ b. text_range (λ j. an_input (input_name b j) ∷ []) (input_line b) (λ j. input_text (input_name b j)) 0 10) 0 blocks in
    let outputs : text_of (flat_map output_plans (range_with_len 0 blocks)) ≡ flat_map block_outputs (range_with_len 0 blocks) =
    text_range output_plans block_outputs (λ b. text_range (λ k. an_output (gate_name b k) ∷ []) (output_line b) (λ k. output_text (gate_name b k)) 90 5) 0 blocks in
    let cells : (b : ℕ) → text_of (cell_plans b) ≡ block_cells b = λ b. text_range (λ j. a_cell (cell_name b j) (gate_name b (95 + j)) ∷ []) (cell_line b) (λ j. cell_text (cell_name b j) (gate_name b (95 + j))) 0 5 in
    let gates : (b : ℕ) → text_of (gate_plans seed b) ≡ block_gates seed b = λ b. text_range (λ k. drawn_plan seed b k ∷ []) (drawn_gate seed b)
    (λ k. gate_text (gate_name b k) (gate_word (draw seed (gate_draw b k) 6)) (operand_name b (draw seed (gate_draw b k + 1) (15 + k))) (operand_name b (draw seed (gate_draw b k + 2) (15 + k)))) 0 100 in
    let rest : text_of (flat_map (λ b. cell_plans b ++ gate_plans seed b) (range_with_len 0 blocks)) ≡ flat_map (λ b. block_cells b ++ block_gates seed b) (range_with_len 0 blocks) =
    text_range (λ b. cell_plans b ++ gate_plans seed b) (λ b. block_cells b ++ block_gates seed b) (λ b. text_append (cell_plans b) (gate_plans seed b) ∙ ap₂ (λ (xs ys : List ℕ). xs ++ ys) (cells b) (gates b)) 0 blocks in
    text_append (flat_map input_plans (range_with_len 0 blocks)) (flat_map output_plans (range_with_len 0 blocks) ++ flat_map (λ b. cell_plans b ++ gate_plans seed b) (range_with_len 0 blocks))
    ∙ ap₂ (λ (xs ys : List ℕ). xs ++ ys) inputs (text_append (flat_map output_plans (range_with_len 0 blocks)) (flat_map (λ b. cell_plans b ++ gate_plans seed b) (range_with_len 0 blocks)) ∙ ap₂ (λ (xs ys : List ℕ). xs ++ ys) outputs rest)

-- ---- words of gates

pub word_is : (w : ℕ) → w < 6 → IsGateWord (gate_word w)
word_is zero lt = record { name = record { some = omega arith; bytes = refl; short = omega arith }; kind = And; named = refl; takes_more = refl }
word_is (suc zero) lt = record { name = record { some = omega arith; bytes = refl; short = omega arith }; kind = Nand; named = refl; takes_more = refl }
word_is (suc (suc zero)) lt = record { name = record { some = omega arith; bytes = refl; short = omega arith }; kind = Or; named = refl; takes_more = refl }
word_is (suc (suc (suc zero))) lt = record { name = record { some = omega arith; bytes = refl; short = omega arith }; kind = Nor; named = refl; takes_more = refl }
word_is (suc (suc (suc (suc zero)))) lt = record { name = record { some = omega arith; bytes = refl; short = omega arith }; kind = Xor; named = refl; takes_more = refl }
word_is (suc (suc (suc (suc (suc zero))))) lt = record { name = record { some = omega arith; bytes = refl; short = omega arith }; kind = Xnor; named = refl; takes_more = refl }
word_is (suc (suc (suc (suc (suc (suc w)))))) lt = absurd (omega arith)

pub drawn_below : (seed i m : ℕ) → 0 < m → draw seed i m < m
drawn_below seed i m some = omega arith

-- ---- operands

below : (m n : ℕ) → m < n → ltb m n ≡ true
below m n lt = grind (arith, nat_tests)

not_below : (m n : ℕ) → n ≤ m → ltb m n ≡ false
not_below m n le = grind (arith, nat_tests)

-- what holds of each kind of operand holds of all
pub of_operand : (P : List ℕ → Type 0) (b m k : ℕ) → m < 15 + k → ((j : ℕ) → j < 10 → P (input_name b j)) → ((j : ℕ) → j < 5 → P (cell_name b j)) → ((j : ℕ) → j < k → P (gate_name b j)) → P (operand_name b m)
of_operand P b m k lt input cell gate = elim (cases_lt m 10) [
  | inl low ↦ subst P (sym (ap (λ (t : Bool). cond t (input_name b m) (cond (ltb m 15) (cell_name b (m - 10)) (gate_name b (m - 15)))) (below m 10 low))) (input m low)
  | inr past ↦ elim (cases_lt m 15) [
    | inl low ↦
        subst P
        (sym (ap (λ (t : Bool). cond t (input_name b m) (cond (ltb m 15) (cell_name b (m - 10)) (gate_name b (m - 15)))) (not_below m 10 (omega arith)) ∙ ap (λ (t : Bool). cond t (cell_name b (m - 10)) (gate_name b (m - 15))) (below m 15 low)))
        (cell (m - 10) (omega arith))
    | inr high ↦
        subst P
        (sym (ap (λ (t : Bool). cond t (input_name b m) (cond (ltb m 15) (cell_name b (m - 10)) (gate_name b (m - 15)))) (not_below m 10 (omega arith)) ∙ ap (λ (t : Bool). cond t (cell_name b (m - 10)) (gate_name b (m - 15))) (not_below m 15 (omega arith))))
        (gate (m - 15) (omega arith))
  ]
]

-- ---- numbers

module _ (seed blocks : ℕ) (few : blocks ≤ 200) where
  abbrev key : List ℕ → ℕ
  key = net_key blocks

  module _ (b : ℕ) (lt : b < blocks) where
    inputs_numbered : AreNumbered key (10 * b) (input_plans b) (10 * (b + 1))
    inputs_numbered = renumbered key (10 * b + 0) (10 * b) (input_plans b) (10 * b + (0 + 10)) (10 * (b + 1)) (omega arith) (omega arith)
        (numbered_range key (λ j. an_input (input_name b j) ∷ []) (λ j. 10 * b + j) 0 10
        (λ j low high. (is_name 105 b j (omega arith) (omega arith) refl, (input_key blocks b j (omega arith) (omega arith), refl), omega arith)))

    outputs_numbered : AreNumbered key (10 * blocks) (output_plans b) (10 * blocks)
    outputs_numbered = numbered_range key (λ k. an_output (gate_name b k) ∷ []) (λ k. 10 * blocks) 90 5 (λ k low high. (is_name 103 b k (omega arith) (omega arith) refl, tt, omega arith))

    cells_numbered : AreNumbered key (10 * blocks + 105 * b) (cell_plans b) (10 * blocks + (105 * b + 5))
    cells_numbered = renumbered key (10 * blocks + (105 * b + 0)) (10 * blocks + 105 * b) (cell_plans b) (10 * blocks + (105 * b + (0 + 5))) (10 * blocks + (105 * b + 5)) (omega arith) (omega arith)
        (numbered_range key (λ j. a_cell (cell_name b j) (gate_name b (95 + j)) ∷ []) (λ j. 10 * blocks + (105 * b + j)) 0 5
        (λ j low high. ((is_name 113 b j (omega arith) (omega arith) refl, is_name 103 b (95 + j) (omega arith) (omega arith) refl), (cell_key blocks b j (omega arith) (omega arith), refl), omega arith)))

    operand_is : (m k : ℕ) → k < 100 → m < 15 + k → IsNetName (operand_name b m)
    operand_is m k small below_gate = of_operand IsNetName b m k below_gate
        (λ j low. is_name 105 b j (omega arith) (omega arith) refl) (λ j low. is_name 113 b j (omega arith) (omega arith) refl) (λ j low. is_name 103 b j (omega arith) (omega arith) refl)

    operand_lower : (m k : ℕ) → k < 100 → m < 15 + k → key (operand_name b m) < 10 * blocks + (105 * b + (5 + k))
    operand_lower m k small below_gate = of_operand (λ n. key n < 10 * blocks + (105 * b + (5 + k))) b m k below_gate
        (λ j low. omega (arith, input_key blocks b j (omega arith) (omega arith))) (λ j low. omega (arith, cell_key blocks b j (omega arith) (omega arith))) (λ j low. omega (arith, gate_key blocks b j (omega arith) (omega arith)))

    gate_numbered : (k w u v : ℕ) → k < 100 → w < 6 → u < 15 + k → v < 15 + k → AreNumbered key (10 * blocks + (105 * b + (5 + k))) (gate_plan b k w u v ∷ []) (10 * blocks + (105 * b + (5 + (k + 1))))
    gate_numbered k w u v small word first second = (
      (is_name 103 b k (omega arith) (omega arith) refl, operand_is u k small first, operand_is v k small second, word_is w word),
      (gate_key blocks b k (omega arith) (omega arith), refl, operand_lower u k small first, operand_lower v k small second),
      omega arith,
    )

    gates_numbered : AreNumbered key (10 * blocks + (105 * b + 5)) (gate_plans seed b) (10 * blocks + 105 * (b + 1))
    gates_numbered = renumbered key (10 * blocks + (105 * b + (5 + 0))) (10 * blocks + (105 * b + 5)) (gate_plans seed b) (10 * blocks + (105 * b + (5 + (0 + 100)))) (10 * blocks + 105 * (b + 1)) (omega arith) (omega arith)
        (numbered_range key (λ k. drawn_plan seed b k ∷ []) (λ k. 10 * blocks + (105 * b + (5 + k))) 0 100
        (λ k low high. gate_numbered k (draw seed (gate_draw b k) 6) (draw seed (gate_draw b k + 1) (15 + k)) (draw seed (gate_draw b k + 2) (15 + k)) high
        (drawn_below seed (gate_draw b k) 6 (omega arith)) (drawn_below seed (gate_draw b k + 1) (15 + k) (omega arith)) (drawn_below seed (gate_draw b k + 2) (15 + k) (omega arith))))

  pub made_numbered : AreNumbered key 0 (made_plans seed blocks) (115 * blocks)
  made_numbered =
      numbered_append key 0 (flat_map input_plans (range_with_len 0 blocks)) _ (10 * blocks) (115 * blocks)
      (renumbered key (10 * 0) 0 _ (10 * (0 + blocks)) (10 * blocks) (omega arith) (omega arith) (numbered_range key input_plans (λ b. 10 * b) 0 blocks (λ b low high. inputs_numbered b (omega arith))))
      (numbered_append key (10 * blocks) (flat_map output_plans (range_with_len 0 blocks)) _ (10 * blocks) (115 * blocks)
      (numbered_range key output_plans (λ b. 10 * blocks) 0 blocks (λ b low high. outputs_numbered b (omega arith)))
      (renumbered key (10 * blocks + 105 * 0) (10 * blocks) _ (10 * blocks + 105 * (0 + blocks)) (115 * blocks) (omega arith) (omega arith)
      (numbered_range key (λ b. cell_plans b ++ gate_plans seed b) (λ b. 10 * blocks + 105 * b) 0 blocks
      (λ b low high. numbered_append key (10 * blocks + 105 * b) (cell_plans b) (gate_plans seed b) (10 * blocks + (105 * b + 5)) (10 * blocks + 105 * (b + 1)) (cells_numbered b (omega arith)) (gates_numbered b (omega arith))))))
