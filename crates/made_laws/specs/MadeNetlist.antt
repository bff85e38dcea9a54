-- The netlist that the generator makes: blocks of ten inputs, five cells and a hundred gates.
use Rattle.std.specs.Prelude.{ℕ, ◌+◌, ◌-◌, ◌*◌, nat_lt, if◌then◌else◌, List, [], ◌∷◌, ◌++◌, flat_map, decimal, codes, slice_index_or}
use Rattle.std.specs.List.{range_with_len}
use Rattle.made_laws.specs.Draws.{draw}

-- the name of net j of its kind in block b
abbrev pub net_name : List ℕ → ℕ → ℕ → List ℕ
net_name kind b j = kind ++ (decimal b ++ (codes "_" ++ decimal j))

abbrev pub input_name : ℕ → ℕ → List ℕ
input_name b j = net_name (codes "i") b j

abbrev pub cell_name : ℕ → ℕ → List ℕ
cell_name b j = net_name (codes "q") b j

abbrev pub gate_name : ℕ → ℕ → List ℕ
gate_name b k = net_name (codes "g") b k

abbrev pub input_line : ℕ → ℕ → List ℕ
input_line b j = codes "INPUT(" ++ (input_name b j ++ codes ")\n")

abbrev pub output_line : ℕ → ℕ → List ℕ
output_line b k = codes "OUTPUT(" ++ (gate_name b k ++ codes ")\n")

-- the cells of a block take its last five gates
abbrev pub cell_line : ℕ → ℕ → List ℕ
cell_line b j = cell_name b j ++ (codes " = DFF(" ++ (gate_name b (95 + j) ++ codes ")\n"))

abbrev pub gate_words : List (List ℕ)
gate_words = codes "AND" ∷ codes "NAND" ∷ codes "OR" ∷ codes "NOR" ∷ codes "XOR" ∷ codes "XNOR" ∷ []

abbrev pub gate_word : ℕ → List ℕ
gate_word w = slice_index_or gate_words w []

-- number m among the ten inputs, the five cells and the gates of a block
abbrev pub operand_name : ℕ → ℕ → List ℕ
operand_name b m = if nat_lt m 10 then input_name b m else (if nat_lt m 15 then cell_name b (m - 10) else gate_name b (m - 15))

-- gate k of block b, of word w with operands u and v
abbrev pub gate_line : ℕ → ℕ → ℕ → ℕ → ℕ → List ℕ
gate_line b k w u v =
    gate_name b k ++ (codes " = " ++ (gate_word w ++ (codes "(" ++ (operand_name b u ++ (codes ", " ++ (operand_name b v ++ codes ")\n"))))))

-- the first of the three draws of gate k of block b
abbrev pub gate_draw : ℕ → ℕ → ℕ
gate_draw b k = 3 * (100 * b + k)

-- a gate's word is drawn, and then its operands among the inputs, the cells and the gates before it
abbrev pub drawn_gate : ℕ → ℕ → ℕ → List ℕ
drawn_gate seed b k =
    gate_line b k (draw seed (gate_draw b k) 6) (draw seed (gate_draw b k + 1) (15 + k)) (draw seed (gate_draw b k + 2) (15 + k))

abbrev pub block_inputs : ℕ → List ℕ
block_inputs b = flat_map (input_line b) (range_with_len 0 10)

abbrev pub block_outputs : ℕ → List ℕ
block_outputs b = flat_map (output_line b) (range_with_len 90 5)

abbrev pub block_cells : ℕ → List ℕ
block_cells b = flat_map (cell_line b) (range_with_len 0 5)

abbrev pub block_gates : ℕ → ℕ → List ℕ
block_gates seed b = flat_map (drawn_gate seed b) (range_with_len 0 100)

-- the inputs of all blocks, the outputs of all blocks, and then block by block the cells and the gates
abbrev pub made_netlist : ℕ → ℕ → List ℕ
made_netlist seed blocks =
    flat_map block_inputs (range_with_len 0 blocks)
    ++ (flat_map block_outputs (range_with_len 0 blocks)
    ++ flat_map (λ b. block_cells b ++ block_gates seed b) (range_with_len 0 blocks))
