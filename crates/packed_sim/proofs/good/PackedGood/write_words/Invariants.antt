use Rattle.std.proofs.Common.{◌≡◌, ◌&&◌, ℕ, ◌+◌, ◌*◌, ◌<◌, length, get_or, eqb, ltb}
use Rattle.std.specs.Int.{bit_at}
use Rattle.scan_model.specs.declared.fault.Fault.TheVariants as fault
use Rattle.scan_model.specs.Coverage.{bit_of}
use Rattle.scan_model.specs.Response.{predicts_fail}
use Rattle.packed_sim.proofs.good.PackedGood.write_words.Given as goal

abbrev pub invariant-loop-k : goal.invariant-loop-k
invariant-loop-k l = record {
  len : length l.out ≡ length l.fn.out;
  so_far : (k i : ℕ) → k < l.k → i < 64 → eqb (bit_at (get_or l.out k 0) i) 1
      ≡ (ltb (64 * l.word + i) (length l.parts.patterns) && predicts_fail l.parts (fault.Cell l.cell.0 l.cell.1 l.cell.2) (bit_of (64 * l.word + i) k));
}
