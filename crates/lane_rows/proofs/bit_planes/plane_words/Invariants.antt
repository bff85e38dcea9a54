use Rattle.std.proofs.Common.{◌≡◌, ℕ, ◌*◌, ◌<◌, ◌≤◌, false, length, slice_index}
use Rattle.lane_rows.specs.DrivenParts.{driven_value}
use Rattle.lane_rows.specs.BitPlanes.{has_bit, is_in}
use Rattle.lane_rows.proofs.bit_planes.plane_words.Given as goal

abbrev pub invariant-loop-at : goal.invariant-loop-at
invariant-loop-at l = record {
  len : length l.words.items ≡ l.nets;
  done : (i j : ℕ) → i < l.nets → j < 8 * l.at → has_bit (slice_index l.words.items i) j ≡ is_in l.plane (driven_value l.part l.patterns j i);
  blank : (i j : ℕ) → 8 * l.at ≤ j → has_bit (slice_index l.words.items i) j ≡ false;
}
