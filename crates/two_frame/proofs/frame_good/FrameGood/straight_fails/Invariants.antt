use Rattle.std.proofs.Common.{◌≡◌, ℕ, ◌<◌, false, ◌&&◌, length, get_or}
use Rattle.scan_model.specs.Netlist.{pin_at}
use Rattle.scan_model.specs.ScanTest.{point_at}
use Rattle.scan_model.specs.Masks.{place_is_point}
use Rattle.two_frame.proofs.frame_good.FrameGood.straight_fails.Given as goal

abbrev pub invariant-loop-k : goal.invariant-loop-k
invariant-loop-k l = record {
  len : length l.out ≡ length l.fn.out;
  so_far : (k : ℕ) → k < l.k → get_or l.out k false ≡ (l.changes && place_is_point l.parts (pin_at l.parts.netlist l.pin).place (point_at l.parts k));
}
