use Rattle.std.proofs.Common.{refl}
use Rattle.std.specs.Fmt.{digits}
use Rattle.desk_replies.proofs.reply.keeper_fault.Goals as goal

pub returns-then-closes : goal.returns-then-closes
unfolding digits
returns-then-closes c = rw c.if-closes.true refl

pub returns-else-closes : goal.returns-else-closes
unfolding digits
returns-else-closes c = rw c.if-closes.false refl
