-- The lines of candidates behind those of a report's opening.
use Rattle.std.proofs.Common.{◌≡◌, ℕ, List, ◌++◌, length, map, ap, subst, ◌∙◌, append_assoc}
use Rattle.std.specs.Prelude.{codes}
use Rattle.std.specs.List.{enumerate_from}
use Rattle.scan_model.specs.declared.logs.Scored.{Scored}
use Rattle.scan_model.specs.ReportText.{ReportForm, named_bit_line, named_candidate_line}
use Rattle.report_lines.specs.declared.draft.Draft.{Draft}
use Rattle.report_lines.specs.LineEnds.{HasLines, AddsLines}
use Rattle.diag_report.specs.declared.tally.Tally.{Tally}
use Rattle.diag_report.specs.Layout.{title_lines, total_lines, opening_lines, layout}

-- an opening with the lines of its candidates
pub all_lines : (form : ReportForm) (design die : List ℕ) (count : ℕ) (tally : Tally) (rows : List Scored) (opened new : Draft) → HasLines (opening_lines form design die count tally (length rows)) opened.text opened.ends
    → AddsLines (map (named_candidate_line form) (enumerate_from 1 rows)) opened new → HasLines (layout form design die count tally rows) new.text new.ends
all_lines form design die count tally rows opened new has adds =
    let title = title_lines form.title design die count in
    let totals = total_lines tally (length rows) in
    let bits = map (named_bit_line form (codes "conflict")) tally.conflict ++ map (named_bit_line form (codes "masked")) tally.masked in
    let candidates = map (named_candidate_line form) (enumerate_from 1 rows) in
    let same : (title ++ (totals ++ bits)) ++ candidates ≡ title ++ (totals ++ (bits ++ candidates)) = append_assoc title (totals ++ bits) candidates ∙ ap (λ (ls : List (List ℕ)). title ++ ls) (append_assoc totals bits candidates) in
    subst (λ (ls : List (List ℕ)). HasLines ls new.text new.ends) same (adds.added (opening_lines form design die count tally (length rows)) has)
