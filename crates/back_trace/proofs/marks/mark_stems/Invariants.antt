use Rattle.std.proofs.Common.{◌*◌}
use Rattle.back_trace.specs.SuspectMarks.{MarksOn}
use Rattle.back_trace.proofs.marks.mark_stems.Given as goal

abbrev pub invariant-loop-net : goal.invariant-loop-net
invariant-loop-net l = MarksOn l.parts l.block l.trace 0 (2 * l.net) l.initial.marks l.marks
