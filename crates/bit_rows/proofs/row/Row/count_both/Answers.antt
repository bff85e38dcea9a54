use Rattle.std.proofs.Common.{◌&&◌, ◌∙◌}
use Rattle.bit_rows.specs.Lanes.{lane}
use Rattle.bit_rows.proofs.LaneCounts.{same_lanes}
use Rattle.bit_rows.proofs.row.Row.count_both.Goals as goal

pub returns : goal.returns
returns c = c.count.ensures ∙ same_lanes (lane c.and.result) (λ j. lane c.args.self j && lane c.args.other j) c.and.ensures
