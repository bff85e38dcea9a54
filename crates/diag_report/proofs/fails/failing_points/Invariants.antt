use Rattle.std.proofs.Common.{◌≡◌}
use Rattle.std.specs.Prelude.{filter}
use Rattle.std.specs.List.{range_with_len}
use Rattle.diag_report.specs.WordFails.{has_fails}
use Rattle.diag_report.proofs.fails.failing_points.Given as goal

abbrev pub invariant-loop-point : goal.invariant-loop-point
invariant-loop-point l = l.points ≡ filter (has_fails l.fails) (range_with_len 0 l.point)
