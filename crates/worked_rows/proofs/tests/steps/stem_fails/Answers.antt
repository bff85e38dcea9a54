use Rattle.std.proofs.Common.{◌≡◌, ◌+◌, ◌≤◌, ℕ, List, [], ◌∷◌, length, ap, ◌∙◌, subst, arith}
use Rattle.scan_model.specs.Netlist.{Netlist, is_gate, net_numbers}
use Rattle.scan_model.specs.Cone.{in_fan_in, fan_out}
use Rattle.packed_sim.specs.PackedParts.{gates_downstream}
use Rattle.worked_rows.proofs.Counted.{fewer_pass_both}
use Rattle.worked_rows.proofs.tests.steps.stem_fails.Goals as goal

pub returns : goal.returns
returns g c =
    let t = c.args.parts.now in
    let n = c.in_ok-net.net in
    let steps = c.write_fails.new.steps in
    let before = c.args.steps.now in
    let bound : steps ≤ before + length (gates_downstream t (n ∷ [])) =
    subst (λ (ns : List ℕ). steps ≤ before + length (gates_downstream t ns)) c.in_ok-net.ensures.touched c.write_fails.ensures in
    let fewer : length (gates_downstream t (n ∷ [])) ≤ length (fan_out t.netlist n) = fewer_pass_both (is_gate t.netlist) (in_fan_in t.netlist n) (net_numbers t.netlist) in
    let there : fan_out c.circuit.result.now n ≡ fan_out t.netlist n = ap (λ (k : Netlist). fan_out k n) c.circuit.ensures.value in
    let cone : c.expect-behind.result ≡ fan_out c.circuit.result.now n = rw c.expect-behind.ensures at c.cone_out.ensures in
    let told : c.len-nets.result ≡ length (fan_out t.netlist n) = c.len-nets.ensures ∙ ap length (cone ∙ there) in
    omega (arith, bound, fewer, told)
