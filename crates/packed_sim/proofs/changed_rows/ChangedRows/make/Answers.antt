use Rattle.std.proofs.Common.{refl}
use Rattle.packed_sim.proofs.changed_rows.ChangedRows.make.Goals as goal

pub invariant_of-result : goal.invariant_of-result
invariant_of-result c = c.requires

pub returns : goal.returns
returns c = refl
