use Rattle.scan_model.proofs.Points.{points_are_points}
use Rattle.packed_sim.proofs.Observed.{are_observed}
use Rattle.packed_sim.proofs.made.observed_nets.Goals as goal

pub nets_of_points-requires : goal.nets_of_points-requires
nets_of_points-requires c = rw (c.as_slice.ensures, c.points.ensures.value) (points_are_points c.args.parts.now)

pub returns : goal.returns
returns c = are_observed c.args.parts.now c.points.ensures.fits c.in_ok-nets.nets.items (rw (c.as_slice.ensures, c.points.ensures.value) at c.in_ok-nets.ensures)
