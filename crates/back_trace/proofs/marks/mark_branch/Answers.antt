use Rattle.back_trace.proofs.Unreached.{branch_stays}
use Rattle.back_trace.proofs.marks.mark_branch.Goals as goal

pub returns-then-is_unreached : goal.returns-then-is_unreached
returns-then-is_unreached c = branch_stays c.args.parts.now c.args.block.now c.args.trace.now c.requires.traced c.args.pin c.args.first c.args.marks.now c.pin_of-seen.ensures.place
    (rw c.pin_of-seen.ensures.pin at (c.is_unreached.ensures c.if-is_unreached.true)) c.requires.faults
