use Rattle.std.proofs.Common.{rules}
use Rattle.desk_heads.proofs.SoughtSteps.{in_none}
use Rattle.desk_heads.proofs.incoming.inbox.Inbox.make.Goals as goal

pub invariant_of-result : goal.invariant_of-result
invariant_of-result c = (in_none _, search rules)
