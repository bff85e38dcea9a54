use Rattle.std.proofs.Common.{◌≡◌, take}
use Rattle.lane_rows.specs.Lanes.{lane}
use Rattle.match_counts.specs.Flips.{tallied}
use Rattle.match_counts.proofs.lane_tally.tally.Given as goal

abbrev pub invariant-loop-row : goal.invariant-loop-row
invariant-loop-row l = l.sum ≡ tallied (take l.row-index l.rows) (lane l.mask)
