use Rattle.std.proofs.Common.{◌≡◌, ℕ, ◌<◌, ◌≤◌, ◌==◌, false, slice_index}
use Rattle.scan_model.specs.ChainShift.{value_at}
use Rattle.lane_rows.specs.BitPlanes.{has_bit, is_in}
use Rattle.lane_rows.proofs.bit_planes.mark_lane.Given as goal

abbrev pub invariant-loop-i : goal.invariant-loop-i
invariant-loop-i l = record {
  there : (k : ℕ) → k < l.i → has_bit (slice_index l.bytes k) l.at ≡ is_in l.fn.plane (value_at l.values k);
  behind : (k : ℕ) → l.i ≤ k → has_bit (slice_index l.bytes k) l.at ≡ false;
  elsewhere : (k j : ℕ) → (j == l.at) ≡ false → has_bit (slice_index l.bytes k) j ≡ has_bit (slice_index l.initial.bytes k) j;
}
