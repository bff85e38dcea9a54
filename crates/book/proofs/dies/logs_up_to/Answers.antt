use Rattle.std.proofs.Common.{arith}
use Rattle.book.proofs.Looking.{up_to_part}
use Rattle.book.proofs.dies.logs_up_to.Goals as goal

pub returns-clause-ok : goal.returns-clause-ok
returns-clause-ok c = up_to_part c.args.logs.now c.args.revision c.in-Some.revision c.in-Some.is (omega arith) (omega arith)
