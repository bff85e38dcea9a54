use Rattle.std.proofs.Common.{map, take}
use Rattle.report_lines.specs.LineEnds.{AddsLines}
use Rattle.diag_report.specs.Summary.{left_out_line}
use Rattle.diag_report.proofs.summary.left_out_lines.Given as goal

abbrev pub invariant-loop-i : goal.invariant-loop-i
invariant-loop-i l = AddsLines (map (left_out_line l.parts) (take l.i l.pairs)) l.initial.draft l.draft
