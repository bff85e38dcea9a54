use Rattle.std.proofs.Common.{◌≡◌, ℕ, ◌<◌, false, cond, take, length, get_or}
use Rattle.scan_model.specs.Coverage.{has_point}
use Rattle.listed_bits.proofs.ends.write_marks.Given as goal

abbrev pub invariant-loop-i : goal.invariant-loop-i
invariant-loop-i l = (k : ℕ) → k < length l.initial.marks → get_or l.marks k false ≡ cond (has_point (take l.i l.group) k) l.mark (get_or l.initial.marks k false)
