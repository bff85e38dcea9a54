use Rattle.std.proofs.Common.{◌≡◌, ◌&&◌, ℕ, ◌+◌, ◌*◌, ◌/◌, ◌%◌, ◌<◌, length, get_or, eqb}
use Rattle.std.specs.Int.{bit_at}
use Rattle.scan_model.specs.Values.{are_opposite}
use Rattle.packed_sim.specs.PackedParts.{captures, good_at, now_at, observed_at}
use Rattle.packed_sim.proofs.good.PackedGood.write_differences.Given as goal

abbrev pub invariant-loop-k : goal.invariant-loop-k
invariant-loop-k l = record {
  len : length l.out ≡ length l.fn.out;
  so_far : (k i : ℕ) → k < l.k → i < 64 → eqb (bit_at (get_or l.out k 0) i) 1
      ≡ (captures l.parts (64 * l.word + i) && are_opposite (good_at l.self (l.word / 8) (64 * (l.word % 8) + i) (observed_at l.parts k)) (now_at l.self l.scratch (l.word / 8) (64 * (l.word % 8) + i) (observed_at l.parts k)));
}
