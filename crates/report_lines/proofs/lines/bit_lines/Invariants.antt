use Rattle.std.proofs.Common.{map, take}
use Rattle.scan_model.specs.ReportText.{named_bit_line}
use Rattle.report_lines.specs.LineEnds.{AddsLines}
use Rattle.report_lines.proofs.lines.bit_lines.Given as goal

abbrev pub invariant-loop-i : goal.invariant-loop-i
invariant-loop-i g l = AddsLines (map (named_bit_line (g.N.ReportNames.form l.names) l.word) (take l.i l.bits)) l.initial.draft l.draft
