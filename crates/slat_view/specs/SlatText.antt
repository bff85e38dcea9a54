-- The texts of the counts and of one pattern's faults.
use Rattle.std.specs.Prelude.{◌≡◌, ℕ, List, [], ◌∷◌, ◌++◌, map, length, decimal, codes}
use Rattle.scan_model.specs.declared.logs.LogFacts.{LogFacts}
use Rattle.scan_model.specs.ScanTest.{ScanTest}
use Rattle.scan_model.specs.ReportText.{line, concatenated, fault_words}
use Rattle.diag_report.specs.PredictedLog.{fault_of}
use Rattle.slat_view.specs.declared.slat.SlatCount.{SlatCount}
use Rattle.slat_view.specs.Slat.{failing_patterns, slat_rows, fitting_places}

-- the lines are put behind what was written
abbrev pub AddsText : List (List ℕ) → List ℕ → List ℕ → Type 0
AddsText lines old new = new ≡ old ++ concatenated lines

-- the words of a pattern that some faults fit
abbrev pub count_words : SlatCount → List (List ℕ)
count_words c = codes "pattern" ∷ decimal c.pattern ∷ codes "faults" ∷ decimal c.faults ∷ []

abbrev pub count_line : SlatCount → List ℕ
count_line c = line (count_words c)

-- the title, with the tags of design and die and the number of logs
abbrev pub title_lines : List ℕ → List ℕ → ℕ → List (List ℕ)
title_lines design die logs =
    line (codes "SLAT" ∷ decimal 1 ∷ [])
    ∷ line (codes "design" ∷ design ∷ [])
    ∷ line (codes "die" ∷ die ∷ [])
    ∷ line (codes "logs" ∷ decimal logs ∷ [])
    ∷ []

-- how many patterns are failing, and how many of them are explained
abbrev pub total_lines : ℕ → ℕ → List (List ℕ)
total_lines failing explained =
    line (codes "failing-patterns" ∷ decimal failing ∷ [])
    ∷ line (codes "slat-patterns" ∷ decimal explained ∷ [])
    ∷ []

-- the lines of the counts
abbrev pub count_lines : List ℕ → List ℕ → ℕ → ℕ → List SlatCount → List (List ℕ)
count_lines design die logs failing rows = title_lines design die logs ++ (total_lines failing (length rows) ++ map count_line rows)

-- the counts of a die's logs
abbrev pub slat_text : ScanTest → List ℕ → List ℕ → List LogFacts → List ℕ
slat_text t design die logs = concatenated (count_lines design die (length logs) (failing_patterns t logs) (slat_rows t logs))

-- the line of the fault at a place
abbrev pub place_line : ScanTest → ℕ → List ℕ
place_line t p = line ((codes "fault" ∷ decimal p ∷ []) ++ fault_words t (fault_of t p))

abbrev pub place_lines : ScanTest → ℕ → List ℕ → List (List ℕ)
place_lines t w places = line (codes "pattern" ∷ decimal w ∷ []) ∷ map (place_line t) places

-- the faults that fit a pattern
abbrev pub pattern_text : ScanTest → List LogFacts → ℕ → List ℕ
pattern_text t logs w = concatenated (place_lines t w (fitting_places t logs w))
