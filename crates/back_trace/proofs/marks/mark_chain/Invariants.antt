use Rattle.std.proofs.Common.{◌+◌, ◌*◌}
use Rattle.back_trace.specs.SuspectMarks.{MarksOn}
use Rattle.back_trace.proofs.marks.mark_chain.Given as goal

abbrev pub invariant-loop-pos : goal.invariant-loop-pos
invariant-loop-pos l = MarksOn l.parts l.block l.trace l.first (l.first + 4 * l.pos) l.initial.marks l.marks
