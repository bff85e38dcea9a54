-- The lines of a report, from a tally of the bits.
use Rattle.std.specs.Prelude.{ℕ, List, [], ◌∷◌, ◌++◌, map, length, decimal, codes}
use Rattle.std.specs.List.{enumerate_from}
use Rattle.scan_model.specs.declared.logs.Scored.{Scored}
use Rattle.scan_model.specs.ReportText.{ReportForm, line, named_bit_line, named_candidate_line}
use Rattle.diag_report.specs.declared.tally.Tally.{Tally}

abbrev pub title_lines : List ℕ → List ℕ → List ℕ → ℕ → List (List ℕ)
title_lines title design die count =
    line (title ∷ decimal 1 ∷ [])
    ∷ line (codes "design" ∷ design ∷ [])
    ∷ line (codes "die" ∷ die ∷ [])
    ∷ line (codes "logs" ∷ decimal count ∷ [])
    ∷ []

abbrev pub total_lines : Tally → ℕ → List (List ℕ)
total_lines tally candidates =
    line (codes "failing" ∷ decimal tally.failing ∷ [])
    ∷ line (codes "passing" ∷ decimal tally.passing ∷ [])
    ∷ line (codes "conflicts" ∷ decimal (length tally.conflict) ∷ [])
    ∷ line (codes "masked" ∷ decimal (length tally.masked) ∷ [])
    ∷ line (codes "candidates" ∷ decimal candidates ∷ [])
    ∷ []

-- the lines before those of so many candidates
abbrev pub opening_lines : ReportForm → List ℕ → List ℕ → ℕ → Tally → ℕ → List (List ℕ)
opening_lines form design die count tally candidates =
    title_lines form.title design die count
    ++ (total_lines tally candidates
    ++ (map (named_bit_line form (codes "conflict")) tally.conflict
    ++ map (named_bit_line form (codes "masked")) tally.masked))

abbrev pub layout : ReportForm → List ℕ → List ℕ → ℕ → Tally → List Scored → List (List ℕ)
layout form design die count tally rows =
    title_lines form.title design die count
    ++ (total_lines tally (length rows)
    ++ (map (named_bit_line form (codes "conflict")) tally.conflict
    ++ map (named_bit_line form (codes "masked")) tally.masked
    ++ map (named_candidate_line form) (enumerate_from 1 rows)))
