use Rattle.std.proofs.Common.{◌≡◌, ℕ, ◌/◌, ◌%◌, ◌<◌, false, length, get_or}
use Rattle.scan_model.specs.Values.{are_opposite}
use Rattle.packed_sim.specs.PackedParts.{good_at, now_at, observed_at}
use Rattle.two_frame.proofs.frame_good.FrameGood.write_differences.Given as goal

abbrev pub invariant-loop-k : goal.invariant-loop-k
invariant-loop-k l = record {
  len : length l.out ≡ length l.fn.out;
  so_far : (k : ℕ) → k < l.k → get_or l.out k false
      ≡ are_opposite (good_at l.self.second (l.pattern / 512) (l.pattern % 512) (observed_at l.parts k)) (now_at l.self.second l.scratch (l.pattern / 512) (l.pattern % 512) (observed_at l.parts k));
}
