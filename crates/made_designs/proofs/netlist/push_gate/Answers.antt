use Rattle.std.proofs.Common.{◌≡◌, ◌+◌, List, ℕ, ◌++◌, ap, ◌∙◌, refl, arith}
use Rattle.std.proofs.lemmas.Result.{on_ok_weaker}
use Rattle.made_laws.specs.MadeNetlist.{gate_draw, gate_line, drawn_gate}
use Rattle.made_designs.proofs.GateLines.{drawn, gate_is}
use Rattle.made_designs.proofs.netlist.push_gate.Goals as goal

pub returns : goal.returns
returns c = λ seed at.
    let b = c.args.block in
    let k = c.args.gate in
    let n = gate_draw b k in
    let w = drawn seed n (n + 1) 6 _ _ c.draw-word.result refl at c.draw-word.ensures.state c.draw-word.ensures.value in
    let u = drawn seed (n + 1) (n + 2) (15 + k) _ _ c.draw-left.result (omega arith) w.0 c.draw-left.ensures.state c.draw-left.ensures.value in
    let v = drawn seed (n + 2) (n + 3) (15 + k) _ _ c.draw-right.result (omega arith) u.0 c.draw-right.ensures.state c.draw-right.ensures.value in
    let gate : gate_line b k c.draw-word.result c.draw-left.result c.draw-right.result ≡ drawn_gate seed b k = gate_is seed b k _ _ _ w.1 u.1 v.1 in
    on_ok_weaker c.push_gate_line.result (λ added. (added ∙ ap (λ (bs : List ℕ). c.args.text.now ++ bs) gate, v.0)) c.push_gate_line.ensures
