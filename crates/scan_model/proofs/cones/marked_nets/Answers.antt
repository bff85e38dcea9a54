use Rattle.std.proofs.Common.{◌∙◌}
use Rattle.scan_model.proofs.FanSweeps.{marked_more_yes, marked_more_no}
use Rattle.scan_model.proofs.cones.marked_nets.Goals as goal
use Rattle.scan_model.proofs.cones.marked_nets.Goals.{then-marked+in_ok-push, else-marked}

pub loop-n-preserved : goal.loop-n-preserved
loop-n-preserved c = elim c.if-marked.branch [
  | then-marked+in_ok-push w ↦ marked_more_yes c.args.marks.now c.loop-n.n c.loop-n.nets c.if-marked.nets w.if-marked.true c.loop-n.invariant (w.nets-is ∙ w.in_ok-push.ensures.ok)
  | else-marked w ↦ w.nets-is ∙ marked_more_no c.args.marks.now c.loop-n.n c.loop-n.nets w.if-marked.false c.loop-n.invariant
]
