use Rattle.std.proofs.Common.{◌&&◌, ◌<◌, Bool, Some, None, length, ltb, ap, ◌∙◌}
use Rattle.std.proofs.lemmas.Bool.{ltb-true}
use Rattle.scan_model.specs.declared.fault.Fault.TheVariants as fault
use Rattle.scan_model.specs.declared.parts.Point.TheVariants as point
use Rattle.scan_model.specs.declared.values.Tri.{Tri}
use Rattle.scan_model.specs.Values.{are_opposite}
use Rattle.scan_model.specs.Response.{observed}
use Rattle.lane_rows.specs.Lanes.{lane}
use Rattle.lane_rows.specs.Planes.{held}
use Rattle.lane_rows.specs.GoodRows.{pattern_of}
use Rattle.packed_sim.proofs.FaultBits.{and_when}
use Rattle.packed_sim.proofs.good.PackedGood.position_row.Goals as goal

pub returns : goal.returns
returns c j j_lt =
    let t = c.args.parts.now in
    let w = pattern_of c.args.block j in
    let p = point.Cell c.args.cell.0 c.args.at in
    let faulty = observed t (Some (fault.Cell c.args.cell.0 c.args.cell.1 c.args.kind)) w p in
    c.and.ensures j j_lt
    ∙ ap (λ (x : Bool). x && lane c.opposite-differs.result j) (c.patterns-there.ensures j j_lt)
    ∙ and_when (ltb w (length t.patterns)) (lane c.opposite-differs.result j) (are_opposite (observed t None w p) faulty)
    (λ there.
    let w_lt : w < length t.patterns = ltb-true w (length t.patterns) there in
    c.opposite-differs.ensures j j_lt
    ∙ ap (λ (v : Tri). are_opposite v (held c.shown-shown.result j)) (c.expected_row-expected.ensures j j_lt w_lt)
    ∙ ap (are_opposite (observed t None w p)) (c.shown-shown.ensures j j_lt w_lt))
