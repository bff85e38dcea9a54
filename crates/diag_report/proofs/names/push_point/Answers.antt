use Rattle.scan_model.specs.declared.parts.Point.TheVariants.{Output}
use Rattle.scan_model.proofs.Points.{points_are_points}
use Rattle.diag_report.proofs.names.push_point.Goals as goal

pub push_point_words-requires : goal.push_point_words-requires
push_point_words-requires c = rw (c.as_slice.ensures, c.points.ensures.value) (points_are_points c.args.parts.now c.args.point (Output 0) c.requires)
