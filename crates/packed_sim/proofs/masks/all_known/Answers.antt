use Rattle.std.proofs.Common.{Bool, ◌&&◌, ◌||◌, not, ap, ◌∙◌}
use Rattle.scan_model.specs.Values.{is_one, is_unknown}
use Rattle.lane_rows.specs.Lanes.{lane}
use Rattle.lane_rows.specs.Planes.{Planes, held}
use Rattle.lane_rows.specs.Sources.{lane_values}
use Rattle.packed_sim.proofs.OtherOperands.{one_pin_more, known_is}
use Rattle.packed_sim.proofs.masks.all_known.Goals as goal

pub loop-pin-preserved : goal.loop-pin-preserved
loop-pin-preserved c j lt =
    let row = c.row_at-row.result in
    one_pin_more (λ pin. not (is_unknown (lane_values c.args.values.now j pin.net))) c.args.pins.now c.loop-pin.pin-index
    (lane c.args.lanes j) (lane c.loop-pin.all j) (lane c.and-all.result j) c.loop-pin-test.true (c.loop-pin.invariant j lt)
    (c.and-all.ensures j lt ∙ ap (λ (x : Bool). lane c.loop-pin.all j && x)
    (c.or.ensures j lt ∙ ap (λ (x : Bool). x || lane c.zeros.result j) (c.ones.ensures j lt) ∙ ap (λ (x : Bool). is_one (held row j) || x) (c.zeros.ensures j lt) ∙ known_is (held row j)
    ∙ ap (λ (p : Planes). not (is_unknown (held p j))) c.row_at-row.ensures))
