use Rattle.std.proofs.Common.{arith}
use Rattle.single_faults.proofs.values.bridge_value.Goals as goal

pub returns : goal.returns
returns c = c.value.ensures 0 (omega arith)
