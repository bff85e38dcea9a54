use Rattle.std.proofs.Common.{length}
use Rattle.scan_model.specs.Marks.{is_marked}
use Rattle.lane_rows.proofs.Sinks.{IsMarkedFrom}
use Rattle.lane_rows.proofs.wiring.mark_sources.Given as goal

abbrev pub invariant-loop-k : goal.invariant-loop-k
invariant-loop-k l = IsMarkedFrom l.circuit l.order l.k (is_marked l.fn.marks) (is_marked l.marks) (length l.marks)

abbrev pub decreases-loop-k : goal.decreases-loop-k
decreases-loop-k l = l.k
