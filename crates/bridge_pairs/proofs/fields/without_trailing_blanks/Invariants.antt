use Rattle.std.proofs.Common.{◌≡◌, length, reverse}
use Rattle.bridge_pairs.specs.PairText.{after_blanks}
use Rattle.bridge_pairs.proofs.fields.without_trailing_blanks.Given as goal

abbrev pub invariant-loop-rest : goal.invariant-loop-rest
invariant-loop-rest l = reverse (after_blanks (reverse l.rest)) ≡ reverse (after_blanks (reverse l.field))

abbrev pub decreases-loop-rest : goal.decreases-loop-rest
decreases-loop-rest l = length l.rest
