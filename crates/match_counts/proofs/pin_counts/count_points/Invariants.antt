use Rattle.std.proofs.Common.{◌≡◌, ◌*◌, ◌≤◌, take}
use Rattle.std.specs.Prelude.{sum_by}
use Rattle.log_rows.specs.declared.side.Side.{Side}
use Rattle.match_counts.specs.Flips.{count_on, pin_lanes}
use Rattle.match_counts.proofs.pin_counts.count_points.Given as goal

abbrev pub invariant-loop-point : goal.invariant-loop-point
invariant-loop-point l = record {
  sum : (side : Side) → count_on side l.count ≡ sum_by (pin_lanes l.parts l.rows side l.place l.mask) (take l.point-index l.points);
  few : (side : Side) → count_on side l.count ≤ 512 * l.point-index;
}
