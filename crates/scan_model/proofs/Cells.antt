-- The cells of chains are flops of the circuit, which have one operand and are neither inputs nor gates.
use Rattle.std.proofs.Common.{◌≡◌, ◌≢◌, ℕ, zero, suc, ◌+◌, ◌<◌, false, List, [], ◌∷◌, length, get_or, take, sym, ap, subst, ◌∙◌, refl, arith}
use Rattle.std.specs.Prelude.{All, Contains, flat_map}
use Rattle.std.proofs.lemmas.Bool.{both_ways}
use Rattle.std.proofs.lemmas.List.Elements.{Contains-append_left, Contains-append_right, Contains-get_or, All-contains, All-from_get_or}
use Rattle.std.proofs.lemmas.List.Concat.{get_or-flat_map}
use Rattle.std.proofs.lemmas.List.Folds.{length-flat_map-take}
use Rattle.scan_model.specs.declared.circuit.Driver.{Driver}
use Rattle.scan_model.specs.declared.circuit.Driver.TheVariants.{Input, Flop, Gate}
use Rattle.scan_model.specs.declared.parts.Chain.{Chain}
use Rattle.scan_model.specs.Netlist.{Netlist, IsNetlist, IsOperandCount, is_input, is_input_driver, is_gate, is_gate_driver, driver_of, net_at}
use Rattle.scan_model.specs.ScanTest.{ScanTest, IsScanTest, IsFlop, chain_at, cells_of, no_chain}
use Rattle.scan_model.specs.Response.{data_pin}
use Rattle.scan_model.specs.Loads.{cell}
use Rattle.scan_model.proofs.Orders.{filter_range_at}

not_input : (x : Driver) → IsFlop x → is_input_driver x ≡ false
not_input Input flop = absurd flop
not_input Flop flop = refl
not_input (Gate kind) flop = refl

not_gate : (x : Driver) → IsFlop x → is_gate_driver x ≡ false
not_gate Input flop = absurd flop
not_gate Flop flop = refl
not_gate (Gate kind) flop = absurd flop

pub cell_is_leaf : (c : Netlist) (n : ℕ) → IsFlop (driver_of c n) → is_gate c n ≡ false
cell_is_leaf c n flop = not_gate (driver_of c n) flop

pub one_operand : (x : Driver) (count : ℕ) → IsFlop x → IsOperandCount x count → count ≡ 1
one_operand Input count flop h = absurd flop
one_operand Flop count flop h = h
one_operand (Gate kind) count flop h = absurd flop

-- the data pin of a flop is in range
pub data_pin-in_range : (c : Netlist) (n : ℕ) → IsNetlist c → n < length c.nets → IsFlop (driver_of c n) → data_pin c n < length c.pins
data_pin-in_range c n sound lt flop = omega (arith, sound.operand_range n lt, one_operand (driver_of c n) (net_at c n).pin_count flop (sound.operand_counts n lt))

-- a flop is no input
pub no_input : (c : Netlist) (n i : ℕ) → IsNetlist c → IsFlop (driver_of c n) → i < length c.inputs → get_or c.inputs i 0 ≢ n
no_input c n i sound flop below is =
    let passes = (filter_range_at (is_input c) 0 (length c.nets) i 0 (omega (arith, ap length sound.inputs))).2 in
    both_ways (is_input c n) (not_input (driver_of c n) flop) (ap (is_input c) (sym is ∙ ap (λ (xs : List ℕ). get_or xs i 0) sound.inputs) ∙ passes)

-- a cell of a chain is a cell
cell_of_chain : (chains : List Chain) (j m : ℕ) (d : Chain) → j < length chains → Contains (get_or chains j d).cells m → Contains (cells_of chains) m
cell_of_chain [] j m d lt in' = absurd (omega arith)
cell_of_chain (c ∷ cs) zero m d lt in' = Contains-append_left c.cells (cells_of cs) m in'
cell_of_chain (c ∷ cs) (suc j) m d lt in' = Contains-append_right c.cells (cells_of cs) m (cell_of_chain cs j m d (omega arith) in')

-- what holds of each cell holds of those of a chain
pub cells_within : (P : ℕ → Type 0) (chains : List Chain) (j : ℕ) (c : Chain) → j < length chains → c ≡ get_or chains j c → All P (cells_of chains) → All P c.cells
cells_within P chains j c lt is all = All-from_get_or P c.cells 0 (λ k inside. All-contains P (cells_of chains) (get_or c.cells k 0) all
    (cell_of_chain chains j (get_or c.cells k 0) c lt (rw (← is) (Contains-get_or c.cells k 0 inside))))

-- the cells of a chain are flops of the circuit
pub cells_are_flops : (t : ScanTest) (h : ℕ) (chain : Chain) → IsScanTest t → h < length t.chains → chain ≡ get_or t.chains h chain → All (λ n. (n < length t.netlist.nets) × IsFlop (driver_of t.netlist n)) chain.cells
cells_are_flops t h chain sound lt is = cells_within (λ n. (n < length t.netlist.nets) × IsFlop (driver_of t.netlist n)) t.chains h chain lt is sound.chains.cells

cell_in : (t : ScanTest) (chains : List Chain) (h i : ℕ) → All (λ n. (n < length t.netlist.nets) × IsFlop (driver_of t.netlist n)) (cells_of chains) → h < length chains → i < length (get_or chains h no_chain).cells
    → (get_or (get_or chains h no_chain).cells i 0 < length t.netlist.nets) × IsFlop (driver_of t.netlist (get_or (get_or chains h no_chain).cells i 0))
cell_in t chains h i all in' within =
    let at = get_or-flat_map (λ (c : Chain). c.cells) chains h i no_chain 0 in' within in
    subst (λ (m : ℕ). (m < length t.netlist.nets) × IsFlop (driver_of t.netlist m)) at
    (all (length (flat_map (λ (c : Chain). c.cells) (take h chains)) + i) 0 (omega (arith, length-flat_map-take (λ (c : Chain). c.cells) chains h no_chain in')))

-- so is the cell at a position
pub cell_is_flop_of : (t : ScanTest) → IsScanTest t → (h i : ℕ) → h < length t.chains → i < length (chain_at t h).cells → (cell t h i < length t.netlist.nets) × IsFlop (driver_of t.netlist (cell t h i))
cell_is_flop_of t sound h i in' within = cell_in t t.chains h i sound.chains.cells in' within
