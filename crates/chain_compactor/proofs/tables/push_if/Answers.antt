use Rattle.std.proofs.Common.{append-nil}
use Rattle.chain_compactor.proofs.tables.push_if.Goals as goal

pub returns-then-not-asked : goal.returns-then-not-asked
returns-then-not-asked c = rw (c.if-not-asked.true, append-nil)
