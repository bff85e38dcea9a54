use Rattle.std.proofs.Common.{◌≡◌, ℕ, false, ◌+◌, ◌<◌, ◌≤◌, length, get_or, ap, ◌∙◌, arith}
use Rattle.std.specs.Prelude.{sum_by}
use Rattle.std.specs.List.{range_with_len}
use Rattle.std.proofs.lemmas.List.{get_or_default}
use Rattle.lane_rows.specs.Lanes.{lane}
use Rattle.log_rows.specs.declared.point_row.PointRow.{PointRow}
use Rattle.log_rows.specs.PointRows.{no_point_row}
use Rattle.match_counts.specs.Flips.{point_row_at}
use Rattle.slat_view.specs.Places.{bad}
use Rattle.pattern_fits.specs.LaneNumbers.{one}
use Rattle.slat_view.proofs.PlaceSums.{few_places, one_most, one_more, none_told, same_sum}
use Rattle.slat_view.proofs.failing.failing_counts.Goals as goal

pub add-requires : goal.add-requires
add-requires c = λ j lt.
    omega (arith, c.loop-k.invariant j lt, few_places (λ q. lane (point_row_at c.args.rows.now q).failing j) c.loop-k.k, one_most (lane (get_or c.args.rows.now c.loop-k.k c.index-rows-k.result).failing j), c.loop-k-test.true, c.requires)

pub loop-k-preserved : goal.loop-k-preserved
loop-k-preserved c = λ j lt.
    let rows = c.args.rows.now in
    let k = c.loop-k.k in
    let row : get_or rows k c.index-rows-k.result ≡ point_row_at rows k = get_or_default rows k c.index-rows-k.result no_point_row (omega (arith, c.loop-k-test.true)) in
    let here : one (lane (get_or rows k c.index-rows-k.result).failing j) ≡ one (lane (point_row_at rows k).failing j) = ap (λ (r : PointRow). one (lane r.failing j)) row in
    omega (arith, c.add.ensures j lt, c.loop-k.invariant j lt, here, one_more (λ q. one (lane (point_row_at rows q).failing j)) k)

pub returns : goal.returns
returns c = λ j lt.
    let rows = c.args.rows.now in
    let f : ℕ → ℕ = λ q. one (lane (point_row_at rows q).failing j) in
    let end : c.loop-k.k ≡ length rows = omega (arith, c.loop-k.auto.k-end, c.loop-k-test.false) in
    c.loop-k.invariant j lt
    ∙ ap (λ (n : ℕ). sum_by f (range_with_len 0 n)) end
    ∙ same_sum f (λ q. bad (lane (point_row_at rows q).failing j) (lane (point_row_at rows q).passing j) false) 0 (length rows) (λ q low high. none_told (lane (point_row_at rows q).failing j) (lane (point_row_at rows q).passing j))
