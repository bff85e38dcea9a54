use Rattle.std.proofs.Common.{◌≡◌, map, take}
use Rattle.scan_model.specs.Suspect.{observed_net}
use Rattle.packed_sim.proofs.made.nets_of_points.Given as goal

abbrev pub invariant-loop-point : goal.invariant-loop-point
invariant-loop-point l = l.nets.items ≡ map (observed_net l.parts) (take l.point-index l.points)
