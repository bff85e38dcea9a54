use Rattle.std.proofs.Common.{take}
use Rattle.report_lines.specs.LineEnds.{AddsLines}
use Rattle.report_lines.specs.Pieces.{lines_from}
use Rattle.report_lines.proofs.lines.candidate_lines_from.Given as goal

abbrev pub invariant-loop-i : goal.invariant-loop-i
invariant-loop-i g l = AddsLines (lines_from (g.N.ReportNames.form l.names) l.first (take l.i l.rows)) l.initial.draft l.draft
