use Rattle.std.proofs.Common.{◌≡◌, ℕ, ◌+◌, Bool, ◌&&◌, ap, ◌∙◌}
use Rattle.lane_rows.specs.Lanes.{lane, count_lanes}
use Rattle.lane_rows.proofs.LaneCounts.{same_lanes}
use Rattle.log_rows.specs.declared.side.Side.{Side}
use Rattle.log_rows.specs.declared.side.Side.TheVariants.{Failing, Passing}
use Rattle.match_counts.specs.Flips.{tallied, list_on, row_on}
use Rattle.match_counts.proofs.flip_rows.FlipRows.add_point.Goals as goal

pub returns : goal.returns
returns c = λ side. by_side side
  where
    by_side : (side : Side) (m : ℕ → Bool) → tallied (list_on side (record { failing = c.push_some.new.rows; passing = c.push_some-2.new.rows })) m ≡ tallied (list_on side c.args.self.now) m + count_lanes (λ j. (lane c.args.caught j && lane (row_on side c.args.row.now) j) && m j)
    by_side Failing m = c.in_ok-push_some.ensures m
        ∙ ap (λ (n : ℕ). tallied c.args.self.now.failing.items m + n) (same_lanes (λ j. lane c.and.result j && m j) (λ j. (lane c.args.caught j && lane c.args.row.now.failing j) && m j) (λ j lt. ap (λ (x : Bool). x && m j) (c.and.ensures j lt)))
    by_side Passing m = c.in_ok-push_some-2.ensures m
        ∙ ap (λ (n : ℕ). tallied c.args.self.now.passing.items m + n) (same_lanes (λ j. lane c.and-2.result j && m j) (λ j. (lane c.args.caught j && lane c.args.row.now.passing j) && m j) (λ j lt. ap (λ (x : Bool). x && m j) (c.and-2.ensures j lt)))
