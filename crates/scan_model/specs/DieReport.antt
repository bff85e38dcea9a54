-- The report of a die from the texts of its logs.
use Rattle.std.specs.Prelude.{ℕ, List, [], ◌∷◌, ◌++◌, filter_map, if◌then◌else◌, Option, Some, None, Result, Ok, Err}
use Rattle.scan_model.specs.declared.fault.Fault.{Fault}
use Rattle.scan_model.specs.declared.logs.LogFacts.{LogFacts}
use Rattle.scan_model.specs.ScanTest.{ScanTest}
use Rattle.scan_model.specs.Words.{has_word}
use Rattle.scan_model.specs.LogText.{log_frame, log_reading}
use Rattle.scan_model.specs.Universe.{universe}
use Rattle.scan_model.specs.ReportText.{report_text_among}

-- the texts that aren't among those seen, each at its first place
abbrev pub different_after : List (List ℕ) → List (List ℕ) → List (List ℕ)
different_after seen [] = []
different_after seen (x ∷ xs) = if has_word seen x then different_after seen xs else x ∷ different_after (seen ++ x ∷ []) xs

-- each different text once, at its first place
abbrev pub different : List (List ℕ) → List (List ℕ)
different texts = different_after [] texts

abbrev pub accepted : Result LogFacts (ℕ × ℕ) → Option LogFacts
accepted (Ok facts) = Some facts
accepted (Err fault) = None

-- what the different texts stand for, as logs of the design and the die
abbrev pub logs_of_texts : ScanTest → List ℕ → List ℕ → List (List ℕ) → List LogFacts
logs_of_texts t design die texts = filter_map (λ text. accepted (log_reading (log_frame t design die) text)) (different texts)

-- the report of a die, over the faults of a list and over all modelled faults
abbrev pub die_report_among : List Fault → ScanTest → List ℕ → List ℕ → List (List ℕ) → List ℕ
die_report_among faults t design die texts = report_text_among faults t design die (logs_of_texts t design die texts)

abbrev pub die_report : ScanTest → List ℕ → List ℕ → List (List ℕ) → List ℕ
die_report t design die texts = die_report_among (universe t) t design die texts
