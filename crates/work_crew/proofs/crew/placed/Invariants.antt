use Rattle.std.proofs.Common.{length}
use Rattle.work_crew.specs.Crews.{Makes, AreMade, ArePlaced}
use Rattle.work_crew.proofs.crew.placed.Given as goal

abbrev pub invariant-loop-number : goal.invariant-loop-number
invariant-loop-number g l = AreMade g.F.Fn l.make l.count l.pieces.items × ArePlaced (Makes g.F.Fn l.make) l.count l.slots.items

abbrev pub decreases-loop-number : goal.decreases-loop-number
decreases-loop-number g l = length l.pieces.items
