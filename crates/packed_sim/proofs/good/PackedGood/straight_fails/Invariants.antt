use Rattle.std.proofs.Common.{◌≡◌, ◌&&◌, ℕ, ◌+◌, ◌*◌, ◌<◌, length, get_or, eqb}
use Rattle.std.specs.Int.{bit_at}
use Rattle.scan_model.specs.Values.{are_opposite}
use Rattle.scan_model.specs.Faults.{stuck_value}
use Rattle.scan_model.specs.Netlist.{pin_at}
use Rattle.scan_model.specs.ScanTest.{point_at}
use Rattle.scan_model.specs.NetValue.{good_value}
use Rattle.scan_model.specs.Masks.{place_is_point}
use Rattle.packed_sim.specs.PackedParts.{captures}
use Rattle.packed_sim.proofs.good.PackedGood.straight_fails.Given as goal

abbrev pub invariant-loop-k : goal.invariant-loop-k
invariant-loop-k l = record {
  len : length l.out ≡ length l.fn.out;
  so_far : (k i : ℕ) → k < l.k → i < 64 → eqb (bit_at (get_or l.out k 0) i) 1
      ≡ (captures l.parts (64 * l.word + i) && (place_is_point l.parts (pin_at l.parts.netlist l.fn.branch.0).place (point_at l.parts k) && are_opposite (good_value l.parts (64 * l.word + i) (pin_at l.parts.netlist l.fn.branch.0).net) (stuck_value l.fn.branch.1)));
}
