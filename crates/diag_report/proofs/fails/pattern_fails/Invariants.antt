use Rattle.std.proofs.Common.{◌/◌, map, take}
use Rattle.scan_model.specs.declared.fault.Fault.{Fault}
use Rattle.scan_model.specs.Coverage.{bit_of}
use Rattle.packed_sim.specs.PackedParts.{AreFails}
use Rattle.report_lines.specs.LineEnds.{AddsLines}
use Rattle.diag_report.specs.PredictedLog.{fail_lines}
use Rattle.diag_report.proofs.fails.pattern_fails.Given as goal

abbrev pub invariant-loop-i : goal.invariant-loop-i
invariant-loop-i l = (f : Fault) → AreFails l.parts f (l.pattern / 64) l.fails → AddsLines (fail_lines l.parts f (map (bit_of l.pattern) (take l.i l.points))) l.initial.draft l.draft
