use Rattle.std.proofs.Common.{◌≡◌, ℕ, ◌+◌, Bool, ◌&&◌, sym, ap, ◌∙◌, arith}
use Rattle.std.specs.Prelude.{if◌then◌else◌}
use Rattle.lane_rows.specs.Lanes.{lane, count_lanes}
use Rattle.log_rows.specs.declared.side.Side.{Side}
use Rattle.log_rows.specs.declared.side.Side.TheVariants.{Failing, Passing}
use Rattle.match_counts.specs.Flips.{count_on, row_on}
use Rattle.match_counts.proofs.LaneSums.{few_lanes}
use Rattle.match_counts.proofs.pin_counts.count_point.Goals as goal

pub overflow_add-result : goal.overflow_add-result
overflow_add-result c = record { fits = omega (arith, c.requires Failing, few_lanes (λ j. lane c.args.row.now.failing j && lane c.args.mask j), c.count_both.ensures) }

pub overflow_add-result-2 : goal.overflow_add-result-2
overflow_add-result-2 c = record { fits = omega (arith, c.requires Passing, few_lanes (λ j. lane c.args.row.now.passing j && lane c.args.mask j), c.count_both-2.ensures) }

pub returns : goal.returns
returns c = λ side. by_side side
  where
    by_side : (side : Side) → count_on side (record { tfsf = c.args.count.tfsf + c.count_both.result; tpsf = c.args.count.tpsf + c.count_both-2.result }) ≡ count_on side c.args.count + (if c.args.asked then count_lanes (λ j. lane (row_on side c.args.row.now) j && lane c.args.mask j) else 0)
    by_side Failing = ap (λ (n : ℕ). c.args.count.tfsf + n) c.count_both.ensures ∙ ap (λ (x : Bool). c.args.count.tfsf + (if x then count_lanes (λ j. lane c.args.row.now.failing j && lane c.args.mask j) else 0)) (sym c.if-not-asked.false)
    by_side Passing = ap (λ (n : ℕ). c.args.count.tpsf + n) c.count_both-2.ensures ∙ ap (λ (x : Bool). c.args.count.tpsf + (if x then count_lanes (λ j. lane c.args.row.now.passing j && lane c.args.mask j) else 0)) (sym c.if-not-asked.false)
