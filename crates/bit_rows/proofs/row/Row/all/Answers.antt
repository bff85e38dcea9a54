use Rattle.bit_rows.proofs.LaneOps.{lane-all}
use Rattle.bit_rows.proofs.row.Row.all.Goals as goal

pub returns : goal.returns
returns c = lane-all
