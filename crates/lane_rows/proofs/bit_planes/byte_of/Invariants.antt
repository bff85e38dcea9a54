use Rattle.std.proofs.Common.{◌≡◌, ℕ, ◌<◌, ◌≤◌, false, get_or}
use Rattle.lane_rows.specs.BitPlanes.{has_bit}
use Rattle.lane_rows.proofs.bit_planes.byte_of.Given as goal

abbrev pub invariant-loop-at : goal.invariant-loop-at
invariant-loop-at l = record {
  done : (j : ℕ) → j < l.at → has_bit l.byte j ≡ get_or l.are_set j false;
  blank : (j : ℕ) → l.at ≤ j → has_bit l.byte j ≡ false;
}
