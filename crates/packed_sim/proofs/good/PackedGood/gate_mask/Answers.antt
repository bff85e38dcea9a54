use Rattle.std.proofs.Common.{◌≡◌, ◌&&◌, ap, ◌∙◌}
use Rattle.scan_model.specs.declared.values.Tri.{Tri}
use Rattle.scan_model.specs.Values.{are_opposite}
use Rattle.scan_model.specs.Faults.{stuck_value}
use Rattle.scan_model.specs.Netlist.{pin_at}
use Rattle.lane_rows.specs.Lanes.{lane}
use Rattle.packed_sim.specs.PackedParts.{good_at, block_at}
use Rattle.packed_sim.specs.OperandValues.{read_values, senses_of}
use Rattle.packed_sim.proofs.PinMasks.{gate_mask_is}
use Rattle.packed_sim.proofs.good.PackedGood.gate_mask.Goals as goal

pub returns : goal.returns
returns c σ rows j lt captured =
    let found = c.requires.gate in
    let t = c.args.parts.now in
    let opposite = lane c.opposite_of-opposite.result j in
    let own = good_at c.args.self.now c.args.block j (pin_at t.netlist c.args.pin).net in
    let shows : lane c.sensed.result j ≡ (opposite && senses_of c.args.gate.1 (read_values t.netlist (block_at c.args.self.now c.args.block).values c.args.gate.0 j) own) = rw (c.circuit-circuit.ensures.value, c.values.ensures) at (c.sensed.ensures j lt) in
    shows
    ∙ gate_mask_is t c.circuit-circuit.ensures.fits c.args.self.now c.requires.built σ rows c.args.block j c.requires.block lt captured c.args.pin c.args.gate.0 found.index c.args.gate.1 c.args.value c.requires.pin found.in_range found.placed found.driven
    opposite
    (c.opposite_of-opposite.ensures j lt ∙ ap (λ (u : Tri). are_opposite u (stuck_value c.args.value))
    (c.row_of.ensures j lt ∙ ap (good_at c.args.self.now c.args.block j) (rw c.circuit-circuit.ensures.value at c.net_of_pin-net.ensures.value)))
