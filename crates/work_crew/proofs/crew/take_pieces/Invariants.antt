use Rattle.work_crew.specs.Crews.{AreMade}
use Rattle.work_crew.proofs.crew.take_pieces.Given as goal

abbrev pub invariant-loop : goal.invariant-loop
invariant-loop g l = AreMade g.F.Fn l.make l.count l.pieces.items
