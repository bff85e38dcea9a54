use Rattle.std.proofs.Common.{◌≡◌, take, not}
use Rattle.std.specs.Prelude.{filter}
use Rattle.bridge_pairs.specs.PairText.{is_feedback}
use Rattle.bridge_pairs.proofs.sweep.part.Given as goal

abbrev pub invariant-loop-i : goal.invariant-loop-i
invariant-loop-i l = record {
  kept : l.parts.kept ≡ filter (λ p. not (is_feedback l.circuit p)) (take l.i l.pairs);
  left_out : l.parts.left_out ≡ filter (is_feedback l.circuit) (take l.i l.pairs);
}
