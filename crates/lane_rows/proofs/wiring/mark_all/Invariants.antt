use Rattle.std.proofs.Common.{◌≡◌, ℕ, ◌<◌, true, get_or}
use Rattle.scan_model.specs.Marks.{is_marked}
use Rattle.lane_rows.proofs.wiring.mark_all.Given as goal

abbrev pub invariant-loop-k : goal.invariant-loop-k
invariant-loop-k l = (i : ℕ) → i < l.k → is_marked l.marks (get_or l.nets i 0) ≡ true
