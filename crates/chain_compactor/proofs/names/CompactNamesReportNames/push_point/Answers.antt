use Rattle.compact_points.proofs.PointsThere.{point_is_there}
use Rattle.chain_compactor.proofs.names.CompactNamesReportNames.push_point.Goals as goal

pub push_shown-requires-clause-point : goal.push_shown-requires-clause-point
push_shown-requires-clause-point c =
    let names = c.args.self.now in
    rw (c.as_slice.ensures, c.in_order.ensures) (point_is_there names.parts.now names.compact.now names.made c.args.point c.requires)
