use Rattle.std.proofs.Common.{◌≡◌, ◌≤◌, ◌&&◌, arith}
use Rattle.lane_rows.specs.Lanes.{lane, count_lanes}
use Rattle.log_rows.specs.declared.side.Side.{Side}
use Rattle.log_rows.specs.declared.side.Side.TheVariants.{Failing, Passing}
use Rattle.match_counts.specs.Flips.{count_on, row_on}
use Rattle.match_counts.proofs.LaneSums.{few_lanes}
use Rattle.match_counts.proofs.chain_counts.count_row.Goals as goal

pub returns-clause-small : goal.returns-clause-small
returns-clause-small c = by_side
  where
    by_side : (side : Side) → count_on side (record { tfsf = c.count_both.result; tpsf = c.count_both-2.result }) ≤ 512
    by_side Failing = omega (arith, c.count_both.ensures, few_lanes (λ j. lane c.args.row j && lane c.args.point.now.failing j))
    by_side Passing = omega (arith, c.count_both-2.ensures, few_lanes (λ j. lane c.args.row j && lane c.args.point.now.passing j))

pub returns-clause-count : goal.returns-clause-count
returns-clause-count c = by_side
  where
    by_side : (side : Side) → count_on side (record { tfsf = c.count_both.result; tpsf = c.count_both-2.result }) ≡ count_lanes (λ j. lane c.args.row j && lane (row_on side c.args.point.now) j)
    by_side Failing = c.count_both.ensures
    by_side Passing = c.count_both-2.ensures
