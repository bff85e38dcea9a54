use Rattle.std.proofs.Common.{◌&&◌, refl, arith}
use Rattle.std.proofs.lemmas.Bool.{and_left}
use Rattle.lane_rows.specs.Lanes.{lane}
use Rattle.match_counts.proofs.LaneSums.{no_lanes}
use Rattle.match_counts.proofs.gather.push_some.Goals as goal

pub returns-else-not-is_empty : goal.returns-else-not-is_empty
returns-else-not-is_empty c = λ m. omega (arith, no_lanes (λ j. lane c.args.row j && m j) (λ j lt. and_left (lane c.args.row j) (m j) (c.if-not-is_empty.ensures.empty refl j lt)))
