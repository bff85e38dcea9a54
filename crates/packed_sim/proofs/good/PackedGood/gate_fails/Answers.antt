use Rattle.std.proofs.Common.{◌≡◌, true, List, ℕ, ◌+◌, ◌*◌, ◌/◌, ◌%◌, ap, ◌∙◌, length, arith}
use Rattle.scan_model.specs.Values.{are_opposite}
use Rattle.scan_model.specs.Netlist.{is_gate, is_gate_driver}
use Rattle.lane_rows.specs.Lanes.{lane}
use Rattle.packed_sim.specs.PackedParts.{good_at, now_at, observed_at, gates_downstream}
use Rattle.packed_sim.proofs.FaultBits.{lane_inside, block_inside, gate_bit, gate_nets}
use Rattle.packed_sim.proofs.good.PackedGood.gate_fails.Goals as goal

pub branch_mask-lanes-requires-clause-block : goal.branch_mask-lanes-requires-clause-block
branch_mask-lanes-requires-clause-block g c = block_inside c.args.parts.now c.args.self.now c.args.word c.requires.good c.requires.word

pub flip-requires-clause-block : goal.flip-requires-clause-block
flip-requires-clause-block g c = block_inside c.args.parts.now c.args.self.now c.args.word c.requires.good c.requires.word

pub returns-clause-fails : goal.returns-clause-fails
returns-clause-fails g c k i lt i_lt =
    let t = c.args.parts.now in
    let word = c.args.word in
    let j = 64 * (word % 8) + i in
    let n = c.args.gate.0 in
    let gate : is_gate t.netlist n ≡ true = ap is_gate_driver c.requires.gate.driven in
    c.write_differences.ensures k i lt i_lt
    ∙ gate_bit t c.circuit.ensures.fits c.args.self.now.wiring.order.items c.requires.good.built.wired.wired.ordered c.args.branch.0 c.args.branch.1 n c.requires.gate.index word k i i_lt lt c.requires.fault
    c.requires.gate.placed gate (lane c.branch_mask-lanes.result j)
    (are_opposite (good_at c.args.self.now (word / 8) j (observed_at t k)) (now_at c.args.self.now c.flip.new.scratch (word / 8) j (observed_at t k)))
    (λ captured. c.branch_mask-lanes.ensures.good c.requires.good n c.requires.gate.index j c.args.gate.1 c.requires.gate.placed c.requires.gate.driven (lane_inside word i i_lt) captured)
    (λ captured. c.flip.ensures.shows c.requires.good k j lt (lane_inside word i i_lt) captured)

pub returns-clause-steps : goal.returns-clause-steps
returns-clause-steps g c =
    let t = c.args.parts.now in
    let gate : is_gate t.netlist c.args.gate.0 ≡ true = ap is_gate_driver c.requires.gate.driven in
    let nets = gate_nets t c.circuit.ensures.fits c.args.self.now.wiring.order.items c.requires.good.built.wired.wired.ordered c.args.branch.0 c.args.gate.0 c.requires.gate.index c.requires.gate.placed gate in
    omega (arith, c.flip.ensures.steps, ap (λ (ns : List ℕ). length (gates_downstream t ns)) nets)
