use Rattle.std.proofs.Common.{◌≡◌, ℕ, ◌<◌, nat_lt, not, ◌&&◌, ◌||◌, take, length, get_or}
use Rattle.std.specs.List.{list_all}
use Rattle.scan_model.specs.Coverage.{bit_of, has_point, group_goes_on}
use Rattle.listed_bits.specs.FailReach.{AreUnmarked}
use Rattle.listed_bits.proofs.ends.cut_groups.Given as goal

abbrev pub invariant-loop-i : goal.invariant-loop-i
invariant-loop-i l = record {
  ends : (w k : ℕ) → k < length l.initial.ends
      → nat_lt w (get_or l.ends k 0)
      ≡ (nat_lt w (get_or l.initial.ends k 0) && list_all (λ group. not (has_point group k) || group_goes_on l.facts (bit_of w k) group) (take l.i l.cuts));
  marks : AreUnmarked l.marks;
}
