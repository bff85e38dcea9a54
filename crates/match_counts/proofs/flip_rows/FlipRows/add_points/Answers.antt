use Rattle.std.proofs.Common.{◌≡◌, ℕ, ◌+◌, ◌<◌, ◌&&◌, length, get_or, ap, ◌∙◌}
use Rattle.std.proofs.lemmas.List.{get_or_read}
use Rattle.std.proofs.lemmas.List.Sums.{sum_by_more}
use Rattle.lane_rows.specs.Lanes.{lane, count_lanes}
use Rattle.log_rows.specs.declared.point_row.PointRow.{PointRow}
use Rattle.log_rows.specs.PointRows.{no_point_row}
use Rattle.match_counts.specs.Flips.{tallied, row_on, point_row_at, list_on}
use Rattle.match_counts.proofs.Sums.{sum_step}
use Rattle.match_counts.proofs.flip_rows.FlipRows.add_points.Goals as goal

pub loop-point-preserved : goal.loop-point-preserved
loop-point-preserved c = λ side m.
    let rows = c.args.rows.now in
    let points = c.args.points.now in
    let i = c.loop-point.point-index in
    let f = λ (k : ℕ). count_lanes (λ j. (lane c.args.caught j && lane (row_on side (point_row_at rows k)) j) && m j) in
    let inside : get_or points i 0 < length rows = c.requires i 0 c.loop-point-test.true in
    let row : c.index-rows-point.result ≡ point_row_at rows (get_or points i 0) = get_or_read rows (get_or points i 0) c.index-rows-point.result inside c.index-rows-point.is no_point_row in
    sum_step (tallied (list_on side c.args.self.now) m) _ (tallied (list_on side c.loop-point.self) m) _ _ (f (get_or points i 0))
    (c.in_ok-add_point.ensures side m ∙ ap (λ (r : PointRow). tallied (list_on side c.loop-point.self) m + count_lanes (λ j. (lane c.args.caught j && lane (row_on side r) j) && m j)) row)
    (c.loop-point.invariant side m)
    (sum_by_more f points i 0 c.loop-point-test.true)
