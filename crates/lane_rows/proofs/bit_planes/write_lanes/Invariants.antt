use Rattle.std.proofs.Common.{◌≡◌, ℕ, ◌<◌, get_or}
use Rattle.lane_rows.specs.DrivenParts.{driven_value}
use Rattle.lane_rows.specs.BitPlanes.{has_bit, is_in}
use Rattle.lane_rows.proofs.bit_planes.write_lanes.Given as goal

abbrev pub invariant-loop-i : goal.invariant-loop-i
invariant-loop-i l = (k j : ℕ) → j < 8 → k < l.i → has_bit (get_or l.bytes k 0) j ≡ is_in l.fn.plane (driven_value l.fn.part l.patterns j k)
