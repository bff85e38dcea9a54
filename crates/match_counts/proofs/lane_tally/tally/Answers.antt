use Rattle.std.proofs.Common.{ℕ, ◌+◌, ◌&&◌, List, take, sym, ap, ◌∙◌, arith}
use Rattle.std.specs.Prelude.{sum_by}
use Rattle.std.proofs.lemmas.List.Sums.{sum_by_more, sum_by_more_le}
use Rattle.lane_rows.specs.Lanes.{lane, count_lanes}
use Rattle.match_counts.proofs.lane_tally.tally.Goals as goal

pub overflow_add-sum : goal.overflow_add-sum
overflow_add-sum c =
    let rows = c.args.rows.now in
    let i = c.loop-row.row-index in
    let row = c.row-item.result in
    let f = λ (r : List ℕ). count_lanes (λ j. lane r j && lane c.args.mask j) in
    let added = c.count_both-sum.ensures ∙ ap f c.row-item.is in
    record { fits = omega (arith, c.loop-row.invariant, c.requires, added, sum_by_more_le f rows i row c.loop-row-test.true) }

pub loop-row-preserved : goal.loop-row-preserved
loop-row-preserved c =
    let rows = c.args.rows.now in
    let i = c.loop-row.row-index in
    let row = c.row-item.result in
    let f = λ (r : List ℕ). count_lanes (λ j. lane r j && lane c.args.mask j) in
    ap (λ (n : ℕ). n + c.count_both-sum.result) c.loop-row.invariant ∙ ap (λ (n : ℕ). sum_by f (take i rows) + n) (c.count_both-sum.ensures ∙ ap f c.row-item.is) ∙ sym (sum_by_more f rows i row c.loop-row-test.true)
