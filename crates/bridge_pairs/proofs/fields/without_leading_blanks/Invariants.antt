use Rattle.std.proofs.Common.{◌≡◌, length}
use Rattle.bridge_pairs.specs.PairText.{after_blanks}
use Rattle.bridge_pairs.proofs.fields.without_leading_blanks.Given as goal

abbrev pub invariant-loop-rest : goal.invariant-loop-rest
invariant-loop-rest l = after_blanks l.rest ≡ after_blanks l.field

abbrev pub decreases-loop-rest : goal.decreases-loop-rest
decreases-loop-rest l = length l.rest
