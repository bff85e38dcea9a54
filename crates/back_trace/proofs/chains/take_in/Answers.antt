use Rattle.back_trace.proofs.ChainTraces.{taken_in}
use Rattle.back_trace.proofs.chains.take_in.Goals as goal

pub returns-then-at-firsts : goal.returns-then-at-firsts
returns-then-at-firsts c = taken_in c.args.firsts.now c.args.fails c.args.shift c.in-Cell.chain c.in-Cell.pos c.args.point c.first_of.result c.earlier.result c.in-Cell.is c.if-at-firsts.true c.first_of.ensures c.earlier.ensures
