use Rattle.std.proofs.Common.{◌+◌, ◌*◌}
use Rattle.back_trace.specs.SuspectMarks.{MarksOn}
use Rattle.back_trace.proofs.marks.mark_branches.Given as goal

abbrev pub invariant-loop-i : goal.invariant-loop-i
invariant-loop-i l = MarksOn l.parts l.block l.trace l.first (l.first + 2 * l.i) l.initial.marks l.marks
