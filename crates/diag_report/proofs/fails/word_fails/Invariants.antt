use Rattle.std.proofs.Common.{◌*◌, ◌-◌}
use Rattle.scan_model.specs.declared.fault.Fault.{Fault}
use Rattle.packed_sim.specs.PackedParts.{AreFails}
use Rattle.report_lines.specs.LineEnds.{AddsLines}
use Rattle.diag_report.specs.PredictedLog.{fail_lines}
use Rattle.diag_report.specs.WordFails.{bits_from}
use Rattle.diag_report.proofs.fails.word_fails.Given as goal

abbrev pub invariant-loop-pattern : goal.invariant-loop-pattern
invariant-loop-pattern l = (f : Fault) → AreFails l.parts f l.word l.fails → AddsLines (fail_lines l.parts f (bits_from l.parts (64 * l.word) (l.pattern - 64 * l.word))) l.initial.draft l.draft
