use Rattle.std.proofs.Common.{◌≡◌, ◌+◌, ◌<◌, Bool, ◌&&◌, List, length, get_or, ap, ◌∙◌, arith}
use Rattle.std.specs.Prelude.{if◌then◌else◌}
use Rattle.std.proofs.lemmas.List.{get_or_read}
use Rattle.std.proofs.lemmas.List.Sums.{sum_by_more}
use Rattle.scan_model.specs.declared.parts.Point.{Point}
use Rattle.scan_model.specs.declared.parts.Point.TheVariants.{Output}
use Rattle.scan_model.specs.ScanTest.{point_at}
use Rattle.scan_model.specs.Masks.{place_is_point}
use Rattle.scan_model.proofs.counting.Shown.{point_at-IsPoint}
use Rattle.lane_rows.specs.Lanes.{lane, count_lanes}
use Rattle.log_rows.specs.declared.point_row.PointRow.{PointRow}
use Rattle.log_rows.specs.PointRows.{no_point_row}
use Rattle.match_counts.specs.Flips.{count_on, pin_lanes, row_on, point_row_at}
use Rattle.match_counts.proofs.LaneSums.{few_lanes}
use Rattle.match_counts.proofs.Sums.{sum_next}
use Rattle.match_counts.proofs.PinShares.{few_if}
use Rattle.match_counts.proofs.pin_counts.count_points.Goals as goal

pub is_point-asked-requires-clause-point : goal.is_point-asked-requires-clause-point
is_point-asked-requires-clause-point c =
    let k = get_or c.args.points.now c.loop-point.point-index 0 in
    rw (c.as_slice.ensures, c.points.ensures.value) (point_at-IsPoint c.args.parts.now c.points.ensures.fits k (omega (arith, c.requires.points c.loop-point.point-index 0 c.loop-point-test.true, c.requires.rows)))

pub loop-point-preserved : goal.loop-point-preserved
loop-point-preserved c =
    let t = c.args.parts.now in
    let rows = c.args.rows.now in
    let points = c.args.points.now in
    let mask = c.args.mask in
    let place = c.args.place in
    let i = c.loop-point.point-index in
    let k = get_or points i 0 in
    let inside : k < length rows = c.requires.points i 0 c.loop-point-test.true in
    let row : c.index-rows-point.result ≡ point_row_at rows k = get_or_read rows k c.index-rows-point.result inside c.index-rows-point.is no_point_row in
    let asked : c.is_point-asked.result ≡ place_is_point t place (point_at t k) = c.is_point-asked.ensures ∙ ap (λ (ps : List Point). place_is_point t place (get_or ps k (Output 0))) (c.as_slice.ensures ∙ c.points.ensures.value) in
    record {
      sum = λ side.
          let old = count_on side c.loop-point.count in
          sum_next (count_on side c.count_point-count.result) old _ _ (pin_lanes t rows side place mask k)
          (
          c.count_point-count.ensures side
          ∙ ap (λ (x : Bool). old + (if x then count_lanes (λ j. lane (row_on side c.index-rows-point.result) j && lane mask j) else 0)) asked
          ∙ ap (λ (r : PointRow). old + (if place_is_point t place (point_at t k) then count_lanes (λ j. lane (row_on side r) j && lane mask j) else 0)) row
          )
          (c.loop-point.invariant.sum side)
          (sum_by_more (pin_lanes t rows side place mask) points i 0 c.loop-point-test.true);
      few = λ side. omega (arith, c.count_point-count.ensures side, c.loop-point.invariant.few side, few_if c.is_point-asked.result (count_lanes (λ j. lane (row_on side c.index-rows-point.result) j && lane mask j)) (few_lanes (λ j. lane (row_on side c.index-rows-point.result) j && lane mask j)));
    }
