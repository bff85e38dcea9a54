use Rattle.std.proofs.Common.{◌≡◌, ℕ, ◌+◌, ◌<◌, Bool, ◌&&◌, List, length, get_or, ap, ◌∙◌, arith}
use Rattle.std.specs.Prelude.{if◌then◌else◌}
use Rattle.std.proofs.lemmas.List.{get_or_read}
use Rattle.std.proofs.lemmas.List.Sums.{sum_by_more}
use Rattle.scan_model.specs.Netlist.{pin_at}
use Rattle.scan_model.specs.ScanTest.{point_at}
use Rattle.scan_model.specs.Masks.{place_is_point}
use Rattle.lane_rows.specs.Lanes.{lane, count_lanes}
use Rattle.log_rows.specs.declared.point_row.PointRow.{PointRow}
use Rattle.log_rows.specs.PointRows.{no_point_row}
use Rattle.match_counts.specs.Flips.{tallied, list_on, row_on, point_row_at}
use Rattle.match_counts.proofs.Sums.{sum_step}
use Rattle.slat_view.specs.StraightPins.{shown_at}
use Rattle.slat_view.proofs.straight.show_points.Goals as goal

pub loop-point-preserved : goal.loop-point-preserved
loop-point-preserved c = λ side m.
    let t = c.args.parts.now in
    let rows = c.args.rows.now in
    let points = c.args.points.now in
    let mask = c.args.mask in
    let place = (pin_at t.netlist c.args.pin).place in
    let i = c.loop-point.point-index in
    let k = get_or points i 0 in
    let inside : k < length rows = c.requires.points i 0 c.loop-point-test.true in
    let row : c.index-rows-point.result ≡ point_row_at rows k = get_or_read rows k c.index-rows-point.result inside c.index-rows-point.is no_point_row in
    let asked : c.is_pin_at-asked.result ≡ place_is_point t place (point_at t k) = c.is_pin_at-asked.ensures in
    let old = tallied (list_on side c.loop-point.shown) m in
    sum_step (tallied (list_on side c.args.shown.now) m) _ old _ _ (shown_at t rows side place mask m k)
    (
    c.in_ok-show_point.ensures side m
    ∙ ap (λ (x : Bool). old + (if x then count_lanes (λ j. (lane mask j && lane (row_on side c.index-rows-point.result) j) && m j) else 0)) asked
    ∙ ap (λ (r : PointRow). old + (if place_is_point t place (point_at t k) then count_lanes (λ j. (lane mask j && lane (row_on side r) j) && m j) else 0)) row
    )
    (c.loop-point.invariant side m)
    (sum_by_more (shown_at t rows side place mask m) points i 0 c.loop-point-test.true)
