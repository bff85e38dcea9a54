use Rattle.std.proofs.Common.{◌≡◌, Bool, ◌&&◌, ◌||◌, ap, ◌∙◌}
use Rattle.scan_model.specs.declared.values.Tri.{Tri}
use Rattle.scan_model.specs.declared.fault.Stuck.{Stuck}
use Rattle.scan_model.specs.declared.fault.Stuck.TheVariants.{Zero, One}
use Rattle.scan_model.specs.declared.fault.Fault.TheVariants.{Branch}
use Rattle.scan_model.specs.Values.{are_opposite}
use Rattle.scan_model.specs.Faults.{stuck_value}
use Rattle.scan_model.specs.Masks.{mask_from}
use Rattle.scan_model.specs.Netlist.{pin_at}
use Rattle.lane_rows.specs.GoodRows.{pattern_of}
use Rattle.lane_rows.specs.Lanes.{lane}
use Rattle.lane_rows.specs.Planes.{held}
use Rattle.packed_sim.specs.PackedParts.{good_at, block_at}
use Rattle.packed_sim.specs.OperandValues.{read_values, senses_of}
use Rattle.packed_sim.proofs.PinMasks.{gate_mask_is, either_and}
use Rattle.packed_sim.proofs.good.PackedGood.gate_flips.Goals as goal

pub returns : goal.returns
returns c σ rows j lt captured =
    let found = c.requires.gate in
    let t = c.args.parts.now in
    let own = good_at c.args.self.now c.args.block j (pin_at t.netlist c.args.pin).net in
    let own_is : held c.row_of-row.result j ≡ own = c.row_of-row.ensures j lt ∙ ap (good_at c.args.self.now c.args.block j) (rw c.circuit-circuit.ensures.value at c.net_of_pin-net.ensures.value) in
    let shows = senses_of c.args.gate.1 (read_values t.netlist (block_at c.args.self.now c.args.block).values c.args.gate.0 j) own in
    let flips = λ (v : Stuck). mask_from t.netlist (σ.source (pattern_of c.args.block j)) (Branch c.args.pin v) c.args.gate.0 in
    let mask_is : (v : Stuck) (x : Bool) → x ≡ are_opposite (held c.row_of-row.result j) (stuck_value v) → (x && shows) ≡ flips v = λ v x is.
    gate_mask_is t c.circuit-circuit.ensures.fits c.args.self.now c.requires.built σ rows c.args.block j c.requires.block lt captured c.args.pin c.args.gate.0 found.index c.args.gate.1 v c.requires.pin found.in_range found.placed found.driven
    x (is ∙ ap (λ (u : Tri). are_opposite u (stuck_value v)) own_is) in
    let falls = lane c.opposite_of-falls.result j in
    let rises = lane c.opposite_of-rises.result j in
    let sensed : lane c.sensed.result j ≡ (lane c.or-known.result j && shows) = rw (c.circuit-circuit.ensures.value, c.values.ensures) at (c.sensed.ensures j lt) in
    sensed
    ∙ ap (λ (x : Bool). x && shows) (c.or-known.ensures j lt)
    ∙ either_and falls rises shows
    ∙ ap (λ (x : Bool). x || (rises && shows)) (mask_is Zero falls (c.opposite_of-falls.ensures j lt))
    ∙ ap (λ (x : Bool). flips Zero || x) (mask_is One rises (c.opposite_of-rises.ensures j lt))
