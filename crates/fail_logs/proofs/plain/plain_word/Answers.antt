use Rattle.std.proofs.Common.{◌<◌, arith}
use Rattle.fail_logs.proofs.PlainWords.{begins}
use Rattle.fail_logs.proofs.plain.plain_word.Goals as goal

pub returns : goal.returns
returns c =
    let some : 0 < c.plain_len-end.result = omega (arith, c.if-end-eq0.false) in
    rw c.split_at.ensures.front (begins c.args.line.now c.in_ok-after.after.now c.plain_len-end.result some c.plain_len-end.ensures.within c.plain_len-end.ensures.plain (rw c.split_at.ensures.back at c.in_ok-after.ensures))
