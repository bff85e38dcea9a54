use Rattle.std.proofs.Common.{◌≡◌, ℕ, take, false, ◌&&◌, get_or}
use Rattle.std.specs.List.{list_any}
use Rattle.scan_model.specs.Coverage.{bit_of, not_after}
use Rattle.listed_bits.specs.FailReach.{reaches, HasEnds}
use Rattle.listed_bits.proofs.reach.reach_of_marked.Given as goal

abbrev pub invariant-loop-i : goal.invariant-loop-i
invariant-loop-i l = record {
  covered : (w k : ℕ) → reaches l.reach (bit_of w k) ≡ list_any (λ f. get_or l.marks f.point false && not_after (bit_of w k) f) (take l.i l.fails);
  ends : HasEnds l.reach;
}
