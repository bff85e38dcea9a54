use Rattle.std.proofs.Common.{◌≡◌, ◌+◌, ◌*◌, length, take}
use Rattle.scan_model.specs.ScanTest.{cells_of}
use Rattle.back_trace.specs.SuspectMarks.{MarksOn}
use Rattle.back_trace.proofs.marks.mark_cells.Given as goal

abbrev pub invariant-loop-h : goal.invariant-loop-h
invariant-loop-h l = record {
  place : l.place ≡ l.first + 4 * length (cells_of (take l.h l.parts.chains));
  marks : MarksOn l.parts l.block l.trace l.first l.place l.initial.marks l.marks;
}
