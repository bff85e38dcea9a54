use Rattle.std.proofs.Common.{◌≡◌, ◌||◌, ℕ, eqb}
use Rattle.std.specs.List.{list_any}
use Rattle.scan_model.specs.Marks.{is_marked}
use Rattle.scan_model.proofs.FanSweeps.{first_reads}
use Rattle.two_frame.proofs.reach.mark_reads.Given as goal

abbrev pub invariant-loop-i : goal.invariant-loop-i
invariant-loop-i l = (n : ℕ) → is_marked l.marks n ≡ (is_marked l.fn.marks n || list_any (λ h. eqb n h) (first_reads l.circuit l.gate l.i))
