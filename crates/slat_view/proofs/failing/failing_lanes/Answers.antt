use Rattle.std.proofs.Common.{◌≡◌, ℕ, ◌||◌, length, get_or, sym, ap, ◌∙◌, arith}
use Rattle.std.specs.List.{list_any, range_with_len}
use Rattle.std.proofs.lemmas.List.{get_or_default}
use Rattle.lane_rows.specs.Lanes.{lane}
use Rattle.log_rows.specs.declared.point_row.PointRow.{PointRow}
use Rattle.match_counts.specs.Flips.{point_row_at}
use Rattle.log_rows.specs.PointRows.{no_point_row}
use Rattle.slat_view.proofs.Ranges.{any_more}
use Rattle.slat_view.proofs.failing.failing_lanes.Goals as goal

pub loop-k-preserved : goal.loop-k-preserved
loop-k-preserved c = λ j lt.
    let rows = c.args.rows.now in
    let k = c.loop-k.k in
    let row = c.index-rows-k.result in
    let is : get_or rows k row ≡ point_row_at rows k = get_or_default rows k row no_point_row (omega (arith, c.loop-k-test.true)) in
    c.or-lanes.ensures j lt
    ∙ ap (λ b. b || lane (get_or rows k row).failing j) (c.loop-k.invariant j lt)
    ∙ ap (λ (r : PointRow). list_any (λ i. lane (point_row_at rows i).failing j) (range_with_len 0 k) || lane r.failing j) is
    ∙ sym (any_more (λ i. lane (point_row_at rows i).failing j) k)

pub returns : goal.returns
returns c = λ j lt.
    let end : c.loop-k.k ≡ length c.args.rows.now = omega (arith, c.loop-k.auto.k-end, c.loop-k-test.false) in
    c.loop-k.invariant j lt ∙ ap (λ (n : ℕ). list_any (λ k. lane (point_row_at c.args.rows.now k).failing j) (range_with_len 0 n)) end
