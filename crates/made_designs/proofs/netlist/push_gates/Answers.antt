use Rattle.std.proofs.Common.{◌≡◌, ◌+◌, ap, ◌∙◌, refl, arith}
use Rattle.made_laws.specs.Draws.{state_after}
use Rattle.made_laws.specs.MadeNetlist.{gate_draw, drawn_gate}
use Rattle.made_designs.proofs.MorePieces.{line_added}
use Rattle.made_designs.proofs.GateLines.{whole_block}
use Rattle.made_designs.proofs.netlist.push_gates.Goals as goal

pub loop-gate-preserved : goal.loop-gate-preserved
loop-gate-preserved c = λ seed at.
    let b = c.args.block in
    let k = c.loop-gate.gate in
    let before = c.loop-gate.invariant seed at in
    let step = c.in_ok-push_gate.ensures seed before.1 in
    let next : gate_draw b k + 3 ≡ gate_draw b (k + 1) = omega arith in
    (line_added (drawn_gate seed b) c.args.text.now _ _ _ 0 k k (omega arith) before.0 step.0 refl, step.1 ∙ ap (state_after seed) next)

pub returns : goal.returns
returns c = λ seed at. whole_block seed c.args.block c.loop-gate.gate c.args.text.now _ _ (omega arith) (c.loop-gate.invariant seed at)
