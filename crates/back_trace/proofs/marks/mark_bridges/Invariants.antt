use Rattle.std.proofs.Common.{◌+◌, ◌*◌}
use Rattle.scan_model.specs.Universe.{bridges_per_pair}
use Rattle.back_trace.specs.SuspectMarks.{MarksOn}
use Rattle.back_trace.proofs.marks.mark_bridges.Given as goal

abbrev pub invariant-loop-i : goal.invariant-loop-i
invariant-loop-i l = MarksOn l.parts l.block l.trace l.first (l.first + bridges_per_pair l.parts.profile * l.i) l.initial.marks l.marks
