use Rattle.std.proofs.Common.{◌≡◌, ◌∙◌, ℕ, ◌+◌, ◌*◌, List, Bool, length, ap, subst, arith}
use Rattle.std.specs.Prelude.{filter}
use Rattle.scan_model.specs.Netlist.{Netlist, is_branch, pin_numbers}
use Rattle.scan_model.specs.Universe.{universe, stems, branches, bridges}
use Rattle.back_trace.specs.SuspectMarks.{AreMarked}
use Rattle.back_trace.proofs.Standing.{stem_count, branch_count, universe_count}
use Rattle.back_trace.proofs.marks.mark_explained.Goals as goal

pub overflow_mul-branches : goal.overflow_mul-branches
overflow_mul-branches c =
    let t = c.args.parts.now in
    let nets_is : c.len-nets.result ≡ length t.netlist.nets = c.len-nets.ensures ∙ ap length (c.nets.ensures.value ∙ ap (λ (x : Netlist). x.nets) c.circuit.ensures.value) in
    let pins_is : c.len-pins.result ≡ length (filter (is_branch t.netlist) (pin_numbers t.netlist)) = c.len-pins.ensures ∙ ap length (c.branch_pins.ensures.value ∙ ap (λ (x : Netlist). filter (is_branch x) (pin_numbers x)) c.circuit-2.ensures.value) in
    omega (arith, pins_is, branch_count t, universe_count t, c.requires.traced.few)

pub overflow_add-stems : goal.overflow_add-stems
overflow_add-stems c =
    let t = c.args.parts.now in
    let nets_is : c.len-nets.result ≡ length t.netlist.nets = c.len-nets.ensures ∙ ap length (c.nets.ensures.value ∙ ap (λ (x : Netlist). x.nets) c.circuit.ensures.value) in
    let pins_is : c.len-pins.result ≡ length (filter (is_branch t.netlist) (pin_numbers t.netlist)) = c.len-pins.ensures ∙ ap length (c.branch_pins.ensures.value ∙ ap (λ (x : Netlist). filter (is_branch x) (pin_numbers x)) c.circuit-2.ensures.value) in
    omega (arith, nets_is, pins_is, stem_count t, branch_count t, c.bridge_count-bridges.ensures.count, universe_count t, c.requires.traced.few)

pub overflow_add-stems-2 : goal.overflow_add-stems-2
overflow_add-stems-2 c =
    let t = c.args.parts.now in
    let nets_is : c.len-nets.result ≡ length t.netlist.nets = c.len-nets.ensures ∙ ap length (c.nets.ensures.value ∙ ap (λ (x : Netlist). x.nets) c.circuit.ensures.value) in
    let pins_is : c.len-pins.result ≡ length (filter (is_branch t.netlist) (pin_numbers t.netlist)) = c.len-pins.ensures ∙ ap length (c.branch_pins.ensures.value ∙ ap (λ (x : Netlist). filter (is_branch x) (pin_numbers x)) c.circuit-2.ensures.value) in
    omega (arith, nets_is, pins_is, stem_count t, branch_count t, c.bridge_count-bridges.ensures.count, universe_count t, c.requires.traced.few)

pub overflow_add-stems-3 : goal.overflow_add-stems-3
overflow_add-stems-3 c =
    let t = c.args.parts.now in
    let nets_is : c.len-nets.result ≡ length t.netlist.nets = c.len-nets.ensures ∙ ap length (c.nets.ensures.value ∙ ap (λ (x : Netlist). x.nets) c.circuit.ensures.value) in
    let pins_is : c.len-pins.result ≡ length (filter (is_branch t.netlist) (pin_numbers t.netlist)) = c.len-pins.ensures ∙ ap length (c.branch_pins.ensures.value ∙ ap (λ (x : Netlist). filter (is_branch x) (pin_numbers x)) c.circuit-2.ensures.value) in
    omega (arith, nets_is, pins_is, stem_count t, branch_count t, c.bridge_count-bridges.ensures.count, universe_count t, c.requires.traced.few)

pub mark_branches-requires-clause-first : goal.mark_branches-requires-clause-first
mark_branches-requires-clause-first c =
    let t = c.args.parts.now in
    let nets_is : c.len-nets.result ≡ length t.netlist.nets = c.len-nets.ensures ∙ ap length (c.nets.ensures.value ∙ ap (λ (x : Netlist). x.nets) c.circuit.ensures.value) in
    let pins_is : c.len-pins.result ≡ length (filter (is_branch t.netlist) (pin_numbers t.netlist)) = c.len-pins.ensures ∙ ap length (c.branch_pins.ensures.value ∙ ap (λ (x : Netlist). filter (is_branch x) (pin_numbers x)) c.circuit-2.ensures.value) in
    omega (arith, nets_is, pins_is, stem_count t, branch_count t, c.bridge_count-bridges.ensures.count)

pub mark_bridges-requires-clause-first : goal.mark_bridges-requires-clause-first
mark_bridges-requires-clause-first c =
    let t = c.args.parts.now in
    let nets_is : c.len-nets.result ≡ length t.netlist.nets = c.len-nets.ensures ∙ ap length (c.nets.ensures.value ∙ ap (λ (x : Netlist). x.nets) c.circuit.ensures.value) in
    let pins_is : c.len-pins.result ≡ length (filter (is_branch t.netlist) (pin_numbers t.netlist)) = c.len-pins.ensures ∙ ap length (c.branch_pins.ensures.value ∙ ap (λ (x : Netlist). filter (is_branch x) (pin_numbers x)) c.circuit-2.ensures.value) in
    omega (arith, nets_is, pins_is, stem_count t, branch_count t, c.bridge_count-bridges.ensures.count)

pub mark_cells-requires-clause-first : goal.mark_cells-requires-clause-first
mark_cells-requires-clause-first c =
    let t = c.args.parts.now in
    let nets_is : c.len-nets.result ≡ length t.netlist.nets = c.len-nets.ensures ∙ ap length (c.nets.ensures.value ∙ ap (λ (x : Netlist). x.nets) c.circuit.ensures.value) in
    let pins_is : c.len-pins.result ≡ length (filter (is_branch t.netlist) (pin_numbers t.netlist)) = c.len-pins.ensures ∙ ap length (c.branch_pins.ensures.value ∙ ap (λ (x : Netlist). filter (is_branch x) (pin_numbers x)) c.circuit-2.ensures.value) in
    omega (arith, nets_is, pins_is, stem_count t, branch_count t, c.bridge_count-bridges.ensures.count)

pub returns : goal.returns
returns c = λ b good within initial so_far.
    let t = c.args.parts.now in
    let nets_is : c.len-nets.result ≡ length t.netlist.nets = c.len-nets.ensures ∙ ap length (c.nets.ensures.value ∙ ap (λ (x : Netlist). x.nets) c.circuit.ensures.value) in
    let pins_is : c.len-pins.result ≡ length (filter (is_branch t.netlist) (pin_numbers t.netlist)) = c.len-pins.ensures ∙ ap length (c.branch_pins.ensures.value ∙ ap (λ (x : Netlist). filter (is_branch x) (pin_numbers x)) c.circuit-2.ensures.value) in
    let rows = c.args.trace.now.fails in
    let marked : ℕ → List Bool → Type 0 = λ n marks. AreMarked t b rows (universe t) n initial marks in
    let to_branches : length (stems t) ≡ 2 * c.len-nets.result = omega (arith, nets_is, pins_is, stem_count t, branch_count t, c.bridge_count-bridges.ensures.count) in
    let to_bridges : 2 * c.len-nets.result + length (branches t) ≡ 2 * c.len-nets.result + 2 * c.len-pins.result = omega (arith, nets_is, pins_is, stem_count t, branch_count t, c.bridge_count-bridges.ensures.count) in
    let to_cells : 2 * c.len-nets.result + 2 * c.len-pins.result + length (bridges t) ≡ 2 * c.len-nets.result + 2 * c.len-pins.result + c.bridge_count-bridges.result = omega (arith, nets_is, pins_is, stem_count t, branch_count t, c.bridge_count-bridges.ensures.count) in
    let by_stems = c.mark_stems.ensures b good within initial so_far in
    let by_branches = c.mark_branches.ensures b good within initial (subst (λ n. marked n c.mark_stems.new.marks) to_branches by_stems) in
    let by_bridges = c.mark_bridges.ensures b good within initial (subst (λ n. marked n c.mark_branches.new.marks) to_bridges by_branches) in
    c.mark_cells.ensures b good within initial (subst (λ n. marked n c.mark_bridges.new.marks) to_cells by_bridges)
