use Rattle.std.proofs.Common.{◌/◌, ◌%◌, ap, ◌∙◌, arith}
use Rattle.bit_rows.specs.Lanes.{lane}
use Rattle.bit_rows.proofs.row.Row.has.Goals as goal

pub returns : goal.returns
returns c = c.is_set.ensures ∙ c.word.ensures (c.args.at % 64) (omega arith) ∙ ap (lane c.args.self) (omega arith)
