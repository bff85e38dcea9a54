use Rattle.std.proofs.Common.{◌≡◌, ℕ, ◌<◌, ◌≤◌, false, slice_index}
use Rattle.lane_rows.specs.DrivenParts.{driven_value}
use Rattle.lane_rows.specs.BitPlanes.{has_bit, is_in}
use Rattle.lane_rows.proofs.bit_planes.mark_lanes.Given as goal

abbrev pub invariant-loop-at : goal.invariant-loop-at
invariant-loop-at l = record {
  done : (i j : ℕ) → j < l.at → has_bit (slice_index l.bytes i) j ≡ is_in l.plane (driven_value l.part l.patterns j i);
  blank : (i j : ℕ) → l.at ≤ j → j < 8 → has_bit (slice_index l.bytes i) j ≡ false;
}
