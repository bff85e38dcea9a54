use Rattle.std.proofs.Common.{◌+◌}
use Rattle.back_trace.specs.SuspectMarks.{MarksOn}
use Rattle.back_trace.proofs.marks.mark_each.Given as goal

abbrev pub invariant-loop-k : goal.invariant-loop-k
invariant-loop-k l = MarksOn l.parts l.block l.trace l.first (l.first + l.k) l.initial.marks l.marks
