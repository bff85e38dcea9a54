use Rattle.desk_heads.proofs.SoughtSteps.{in_none}
use Rattle.desk_heads.proofs.incoming.inbox.Inbox.use_up.Goals as goal

pub invariant_of-self : goal.invariant_of-self
invariant_of-self c = (in_none _, c.self.invariant.1)

pub invariant_of-self-else-count-len : goal.invariant_of-self-else-count-len
invariant_of-self-else-count-len c = (in_none _, c.self.invariant.1)
