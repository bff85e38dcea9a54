use Rattle.std.proofs.Common.{List, refl, ap, ◌∙◌}
use Rattle.lane_rows.specs.Planes.{Planes}
use Rattle.lane_rows.specs.Sources.{lane_values}
use Rattle.frame_rows.specs.SecondRows.{next_value}
use Rattle.frame_rows.proofs.NextFrame.{next_block_is}
use Rattle.frame_rows.proofs.second.next_block.Goals as goal

pub returns : goal.returns
returns c = λ b rows.
    let t = c.args.parts.now in
    let sourced = rw c.circuit-circuit.ensures.value at c.in_ok-sources.ensures.value in
    rw c.from_vec.ensures (next_block_is t c.circuit-circuit.ensures.fits c.order.result.now (rw c.circuit-circuit.ensures.value at c.order.ensures) b c.args.first.now rows
    c.in_ok-sources.sources.items c.evaluated-values.result.items c.args.first.now.capture c.args.first.now.shift refl
    (rw c.circuit-circuit.ensures.value at c.evaluated-values.ensures.len)
    (λ j n lj lt. sourced j n lj lt ∙ ap (λ (first : List Planes). next_value t.netlist (lane_values first j) n) c.as_slice.ensures)
    (rw c.circuit-circuit.ensures.value at c.evaluated-values.ensures.value))
