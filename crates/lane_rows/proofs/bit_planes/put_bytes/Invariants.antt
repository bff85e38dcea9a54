use Rattle.std.proofs.Common.{◌≡◌, ℕ, ◌/◌, ◌%◌, ◌<◌, ◌≤◌, ◌==◌, false, slice_index}
use Rattle.lane_rows.specs.BitPlanes.{has_bit}
use Rattle.lane_rows.proofs.bit_planes.put_bytes.Given as goal

abbrev pub invariant-loop-i : goal.invariant-loop-i
invariant-loop-i l = record {
  there : (k j : ℕ) → k < l.i → j / 8 ≡ l.at → has_bit (slice_index l.words k) j ≡ has_bit (slice_index l.bytes k) (j % 8);
  behind : (k j : ℕ) → l.i ≤ k → j / 8 ≡ l.at → has_bit (slice_index l.words k) j ≡ false;
  elsewhere : (k j : ℕ) → (j / 8 == l.at) ≡ false → has_bit (slice_index l.words k) j ≡ has_bit (slice_index l.initial.words k) j;
}
