use Rattle.std.specs.Arc.{arc_value}
use Rattle.diagnosis.proofs.Views.{view_without_logs}
use Rattle.diagnosis.proofs.view.DieView.make.Goals as goal

pub invariant_of-result : goal.invariant_of-result
invariant_of-result c = rw c.new-logs.ensures (view_without_logs (arc_value c.args.design) c.args.die (rw c.deref.ensures at c.name-name.ensures.design) c.requires)
