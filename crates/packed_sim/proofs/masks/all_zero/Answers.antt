use Rattle.std.proofs.Common.{Bool, ◌&&◌, ap, ◌∙◌}
use Rattle.scan_model.specs.Values.{is_zero}
use Rattle.lane_rows.specs.Lanes.{lane}
use Rattle.lane_rows.specs.Planes.{Planes, held}
use Rattle.lane_rows.specs.Sources.{lane_values}
use Rattle.packed_sim.proofs.OtherOperands.{one_pin_more}
use Rattle.packed_sim.proofs.masks.all_zero.Goals as goal

pub loop-pin-preserved : goal.loop-pin-preserved
loop-pin-preserved c j lt = one_pin_more (λ pin. is_zero (lane_values c.args.values.now j pin.net)) c.args.pins.now c.loop-pin.pin-index
    (lane c.args.lanes j) (lane c.loop-pin.all j) (lane c.and-all.result j) c.loop-pin-test.true (c.loop-pin.invariant j lt)
    (c.and-all.ensures j lt ∙ ap (λ (x : Bool). lane c.loop-pin.all j && x) (c.zeros.ensures j lt ∙ ap (λ (p : Planes). is_zero (held p j)) c.row_at.ensures))
