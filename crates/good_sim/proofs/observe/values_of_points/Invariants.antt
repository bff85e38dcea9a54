use Rattle.std.proofs.Common.{◌≡◌, map, take}
use Rattle.good_sim.specs.PointValues.{shown_at}
use Rattle.good_sim.proofs.observe.values_of_points.Given as goal

abbrev pub invariant-loop-point : goal.invariant-loop-point
invariant-loop-point l = l.values.items ≡ map (shown_at l.outputs l.rows) (take l.point-index l.points)
