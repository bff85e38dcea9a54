use Rattle.std.proofs.Common.{sym, subst}
use Rattle.scan_model.specs.ScanTest.{IsPoint}
use Rattle.scan_model.proofs.counting.Shown.{point_at-IsPoint}
use Rattle.packed_sim.proofs.fails.is_pin_at.Goals as goal

pub is_pin_of-requires-clause-point : goal.is_pin_of-requires-clause-point
is_pin_of-requires-clause-point c = subst (IsPoint c.args.parts.now) (sym c.point_of-point.ensures) (point_at-IsPoint c.args.parts.now c.chains.ensures.fits c.args.k c.requires.point)
