use Rattle.std.proofs.Common.{◌≡◌, ℕ, ◌<◌, nat_lt, get_or}
use Rattle.scan_model.specs.Coverage.{bit_of}
use Rattle.listed_bits.specs.FailReach.{reaches}
use Rattle.listed_bits.proofs.ends.set_ends.Given as goal

abbrev pub invariant-loop-point : goal.invariant-loop-point
invariant-loop-point l = (w k : ℕ) → k < l.point → nat_lt w (get_or l.ends k 0) ≡ reaches l.reach (bit_of w k)
