use Rattle.std.proofs.Common.{◌^◌, ◌<◌}
use Rattle.log_rows.specs.declared.side.Side.{Side}
use Rattle.match_counts.specs.Flips.{count_on}
use Rattle.lane_rows.specs.Lanes.{lane}
use Rattle.log_rows.specs.declared.side.Side.TheVariants as side
use Rattle.match_counts.proofs.LaneSums.{few_more}
use Rattle.match_counts.proofs.flip_rows.FlipRows.count_in.Goals as goal

pub tally-requires : goal.tally-requires
tally-requires c = rw c.deref.ensures.value (few_more _ (c.requires side.Failing (lane c.args.mask)))

pub tally-requires-2 : goal.tally-requires-2
tally-requires-2 c = rw c.deref-2.ensures.value (few_more _ (c.requires side.Passing (lane c.args.mask)))

pub returns-clause-few : goal.returns-clause-few
returns-clause-few c = λ side. by_side side
  where
    by_side : (side : Side) → count_on side (record { tfsf = c.tally.result; tpsf = c.tally-2.result }) < 2 ^ 31
    by_side side.Failing = rw (c.tally.ensures, c.deref.ensures.value) (c.requires side.Failing (lane c.args.mask))
    by_side side.Passing = rw (c.tally-2.ensures, c.deref-2.ensures.value) (c.requires side.Passing (lane c.args.mask))
