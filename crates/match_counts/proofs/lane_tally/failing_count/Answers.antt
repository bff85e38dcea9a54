use Rattle.std.proofs.Common.{ℕ, ◌+◌, take, sym, ap, ◌∙◌, arith}
use Rattle.std.specs.Prelude.{sum_by}
use Rattle.std.proofs.lemmas.List.Sums.{sum_by_more}
use Rattle.lane_rows.specs.Lanes.{lane, count_lanes}
use Rattle.log_rows.specs.declared.point_row.PointRow.{PointRow}
use Rattle.match_counts.proofs.LaneSums.{few_lanes}
use Rattle.match_counts.proofs.lane_tally.failing_count.Goals as goal

pub loop-row-preserved : goal.loop-row-preserved
loop-row-preserved c =
    let rows = c.args.rows.now in
    let i = c.loop-row.row-index in
    let row = c.row-item.result in
    let f = λ (r : PointRow). count_lanes (lane r.failing) in
    record {
      sum = ap (λ (n : ℕ). n + c.count-sum.result) c.loop-row.invariant.sum ∙ ap (λ (n : ℕ). sum_by f (take i rows) + n) (c.count-sum.ensures ∙ ap f c.row-item.is) ∙ sym (sum_by_more f rows i row c.loop-row-test.true);
      few = omega (arith, c.loop-row.invariant.few, few_lanes (lane row.failing), c.count-sum.ensures);
    }

pub overflow_add-sum : goal.overflow_add-sum
overflow_add-sum c = record { fits = omega (arith, c.loop-row.invariant.few, c.requires, few_lanes (lane c.row-item.result.failing), c.count-sum.ensures) }
