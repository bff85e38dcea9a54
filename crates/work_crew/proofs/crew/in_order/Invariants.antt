use Rattle.std.proofs.Common.{length}
use Rattle.work_crew.specs.Crews.{Makes, MakeAll, ArePlaced}
use Rattle.work_crew.proofs.crew.in_order.Given as goal

abbrev pub invariant-loop-number : goal.invariant-loop-number
invariant-loop-number g l = ArePlaced (Makes g.F.Fn l.make) (length l.initial.slots.items) l.slots.items × MakeAll g.F.Fn l.make l.number l.all.items
