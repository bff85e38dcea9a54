use Rattle.std.proofs.Common.{◌≡◌, ◌≤◌, length}
use Rattle.scan_model.specs.Marks.{is_marked}
use Rattle.explained_lanes.proofs.SweptBack.{IsSweptBack}
use Rattle.two_frame.proofs.reach.spread_back.Given as goal

abbrev pub invariant-loop-k : goal.invariant-loop-k
invariant-loop-k l = record {
  within : l.k ≤ length l.order;
  len : length l.marks ≡ length l.fn.marks;
  swept : IsSweptBack l.circuit l.order (is_marked l.fn.marks) l.k (is_marked l.marks);
}

abbrev pub decreases-loop-k : goal.decreases-loop-k
decreases-loop-k l = l.k
