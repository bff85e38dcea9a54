use Rattle.std.proofs.Common.{arith}
use Rattle.desk_heads.proofs.IncomingSteps.{loses}
use Rattle.desk_heads.proofs.incoming.read_some.Goals as goal

pub returns-in-Err-clause-lost : goal.returns-in-Err-clause-lost
returns-in-Err-clause-lost g c _ =
    let took = c.in-Got.ensures in
    loses c.args.inbox.now c.add.new.self c.read.new.into (g.L.Link.left c.args.link.now) (g.L.Link.left c.read.new.self) c.in-Got.count took.taken took.within.0 (took.within.1 (omega arith)) c.in-Err.ensures.err
