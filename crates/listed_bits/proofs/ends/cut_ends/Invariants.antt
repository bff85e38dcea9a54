use Rattle.std.proofs.Common.{◌≡◌, ℕ, ◌<◌, nat_lt, not, ◌&&◌, ◌||◌, take, length, get_or}
use Rattle.scan_model.specs.Coverage.{bit_of, has_point}
use Rattle.listed_bits.specs.FailReach.{reaches}
use Rattle.listed_bits.proofs.ends.cut_ends.Given as goal

abbrev pub invariant-loop-i : goal.invariant-loop-i
invariant-loop-i l = (w k : ℕ) → k < length l.initial.ends
    → nat_lt w (get_or l.ends k 0) ≡ (nat_lt w (get_or l.initial.ends k 0) && (not (has_point (take l.i l.group) k) || reaches l.reach (bit_of w k)))
