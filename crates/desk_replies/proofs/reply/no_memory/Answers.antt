use Rattle.std.proofs.Common.{refl}
use Rattle.std.specs.Fmt.{digits}
use Rattle.desk_replies.proofs.reply.no_memory.Goals as goal

pub returns : goal.returns
unfolding digits
returns c = refl
