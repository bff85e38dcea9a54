-- The lines of candidates, in pieces of so many candidates each.
use Rattle.std.specs.Prelude.{ℕ, ◌+◌, ◌*◌, ◌<◌, ◌≤◌, List, length, map, take, drop, slice_index_or}
use Rattle.std.specs.List.{enumerate_from}
use Rattle.scan_model.specs.declared.logs.Scored.{Scored}
use Rattle.scan_model.specs.ReportText.{ReportForm, named_candidate_line}
use Rattle.report_lines.specs.declared.draft.Draft.{Draft}
use Rattle.report_lines.specs.LineEnds.{HasLines}

-- the lines of candidates in their order, the first of a given rank
abbrev pub lines_from : ReportForm → ℕ → List Scored → List (List ℕ)
lines_from form first rows = map (named_candidate_line form) (enumerate_from first rows)

-- the lines of the piece of a number: its ranks go on from those of the pieces before it
abbrev pub piece_lines : ReportForm → List Scored → ℕ → ℕ → List (List ℕ)
piece_lines form rows size piece = lines_from form (piece * size + 1) (take size (drop (piece * size) rows))

-- texts of all pieces, in their order
pub record ArePieces (form : ReportForm) (rows : List Scored) (size : ℕ) (drafts : List Draft) : Type 0 where
  pub all : length rows ≤ length drafts * size
  pub each : (k : ℕ) (d : Draft) → k < length drafts → HasLines (piece_lines form rows size k) (slice_index_or drafts k d).text (slice_index_or drafts k d).ends
