use Rattle.std.proofs.Common.{ℕ, ◌*◌, List, take}
use Rattle.scan_model.specs.declared.logs.Scored.{Scored}
use Rattle.scan_model.specs.ReportText.{ReportForm}
use Rattle.report_lines.specs.LineEnds.{AddsLines}
use Rattle.report_lines.specs.Pieces.{lines_from, ArePieces}
use Rattle.report_lines.proofs.pieces.append_all.Given as goal

abbrev pub invariant-loop-piece : goal.invariant-loop-piece
invariant-loop-piece l = (form : ReportForm) (rows : List Scored) (size : ℕ) → ArePieces form rows size l.pieces → AddsLines (lines_from form 1 (take (l.piece-index * size) rows)) l.initial.draft l.draft
