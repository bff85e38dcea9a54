use Rattle.std.proofs.Common.{◌≡◌, ◌*◌, length}
use Rattle.std.specs.Prelude.{min}
use Rattle.scan_model.specs.ScanTest.{points_of}
use Rattle.packed_sim.specs.PackedParts.{IsScratchOf}
use Rattle.fault_universe.specs.BitRows.{bits_upto}
use Rattle.report_lines.specs.LineEnds.{AddsLines}
use Rattle.diag_report.specs.PredictedLog.{fail_lines}
use Rattle.diag_report.proofs.fails.fails_by_word.Given as goal

abbrev pub invariant-loop-word : goal.invariant-loop-word
invariant-loop-word g l = record {
  room : IsScratchOf l.good l.scratch;
  words : length l.fails ≡ length (points_of l.parts);
  so_far : AddsLines (fail_lines l.parts l.fault (bits_upto l.parts (min (length l.parts.patterns) (64 * l.word)))) l.initial.draft l.draft;
}
