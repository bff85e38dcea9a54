use Rattle.std.proofs.Common.{◌≡◌, ℕ, ◌+◌, ◌-◌, ◌*◌, ◌<◌, ◌≤◌, ◌∙◌, length, take, drop, get_or, sym, ap, arith}
use Rattle.std.specs.Prelude.{flat_map}
use Rattle.std.proofs.lemmas.List.{get_or-take, get_or-drop, length-take-le, length-drop}
use Rattle.scan_model.specs.declared.values.Tri.{Tri}
use Rattle.scan_model.specs.declared.values.Tri.TheVariants.{Unknown}
use Rattle.scan_model.specs.declared.parts.Pattern.{Pattern}
use Rattle.scan_model.specs.ChainShift.{value_at}
use Rattle.scan_model.specs.Netlist.{Netlist}
use Rattle.scan_model.specs.ScanTest.{cells_of, no_pattern, pattern_at}
use Rattle.scan_model.specs.NetValue.{assigned}
use Rattle.scan_model.proofs.Assigned.{assigned_agree}
use Rattle.scan_model.proofs.Cells.{no_input}
use Rattle.scan_model.proofs.Inputs.{inputs_in_range}
use Rattle.lane_rows.specs.Sources.{lane_values}
use Rattle.lane_rows.proofs.WordAssigning.{column_assigned, assigned_away}
use Rattle.lane_rows.proofs.sources.assign_word.Goals as goal

pub assign-requires-clause-in_range : goal.assign-requires-clause-in_range
assign-requires-clause-in_range c =
    rw (c.as_slice-inputs.ensures, c.inputs.ensures.value, c.circuit.ensures.value, c.assign_chains.auto.rows, c.requires.len)
    (inputs_in_range c.args.parts.now.netlist c.circuit.ensures.fits.circuit.netlist)

pub returns-clause-there : goal.returns-clause-there
returns-clause-there c = λ n j lj no_gate.
    let t = c.args.parts.now in
    let at = 64 * c.args.word + j in
    let w = c.args.first + j in
    let p = pattern_at t w in
    let loads = flat_map (λ row. row) p.loads in
    let cells = cells_of t.chains in
    let width = c.args.first + c.args.count - c.args.first in
    let rest = drop c.args.first t.patterns in
    let narrow : width ≡ c.args.count = omega arith in
    let len : length (take width rest) ≡ c.args.count = length-take-le width rest (omega (arith, length-drop c.args.first t.patterns, c.requires.patterns)) ∙ narrow in
    let is : get_or (take width rest) j no_pattern ≡ p = get_or-take width rest j no_pattern (omega (arith, narrow)) ∙ get_or-drop c.args.first t.patterns j no_pattern in
    let inside : j < length (take width rest) = omega (arith, len) in
    let before : ℕ → Tri = lane_values c.args.rows.now at in
    let middle : ℕ → Tri = lane_values c.assign_chains.new.rows at in
    let loaded : (m : ℕ) → middle m ≡ assigned cells loads before m = λ m.
    (rw (c.as_slice.ensures, c.patterns.ensures.value, c.as_slice-2.ensures, c.chains.ensures.value) at c.in_ok-assign_chains.ensures.there) m j inside
    ∙ ap (λ (q : Pattern). assigned cells (flat_map (λ row. row) q.loads) before m) is in
    let driven = rw (c.as_slice.ensures, c.patterns.ensures.value, c.as_slice-inputs.ensures, c.inputs.ensures.value, c.circuit.ensures.value) at c.in_ok-driven.ensures.value in
    let as_many = c.in_ok-driven.ensures.len ∙ ap length (c.as_slice-inputs.ensures ∙ c.inputs.ensures.value ∙ ap (λ (net : Netlist). net.inputs) c.circuit.ensures.value) in
    let last = rw (c.as_slice-inputs.ensures, c.inputs.ensures.value, c.circuit.ensures.value, c.deref.ensures.value) at c.assign.ensures.there in
    let away : (i : ℕ) → i < length t.netlist.inputs → length p.inputs ≤ i → get_or t.netlist.inputs i 0 ≡ n → middle n ≡ Unknown = λ i lt past here.
    loaded n
    ∙ assigned_away cells loads before n (λ k in_cells same. no_input t.netlist (get_or cells k 0) i c.circuit.ensures.fits.circuit.netlist (c.circuit.ensures.fits.chains.cells k 0 in_cells).1 lt (here ∙ sym same))
    ∙ c.requires.blank n j (omega (arith, c.requires.few)) no_gate in
    last n j (omega (arith, c.requires.few))
    ∙ column_assigned t.netlist.inputs c.in_ok-driven.driven.items p.inputs j n middle as_many (λ i lt. driven i j inside (omega (arith, as_many)) ∙ ap (λ (q : Pattern). value_at q.inputs i) is) away
    ∙ assigned_agree t.netlist.inputs p.inputs middle (assigned cells loads (λ m. Unknown)) n
    (loaded n ∙ assigned_agree cells loads before (λ m. Unknown) n (c.requires.blank n j (omega (arith, c.requires.few)) no_gate))
