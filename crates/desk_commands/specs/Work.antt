-- What a command comes to, from its words and the files.
use Rattle.std.specs.Prelude.{ℕ, List, [], ◌∷◌, ◌++◌, codes, Result, Ok, Err}
use Rattle.std.specs.Fmt.{decimal}
use Rattle.desk_outside.specs.declared.shelf.File.{File}
use Rattle.scan_model.specs.LogText.{LogFrame, log_frame, log_reading}
use Rattle.scan_model.specs.DieReport.{die_report}
use Rattle.diag_report.specs.Summary.{summary_text}
use Rattle.design_bundle.specs.Bundle.{bundle_text}
use Rattle.diagnosis.specs.Texts.{ReadTexts, value, one_text, and_then, by_rules, source_reading}
use Rattle.desk_commands.specs.declared.files.Refusal.{Refusal}
use Rattle.desk_commands.specs.declared.files.Refusal.TheVariants.{Absent, TooLong, Rule}
use Rattle.command_words.specs.Invocations.{DesignNames, Request}
use Rattle.desk_commands.specs.FileReadings.{Reading, file_place, for_fault, files_source}

module _ (files : List File) (names : DesignNames) where
  -- the design of the four files, each read and judged before the next is read
  abbrev pub design_reading : Reading ReadTexts
  design_reading = source_reading (files_source files names)

  -- the summary of the design
  abbrev pub check_reading : Reading (List ℕ)
  check_reading = and_then design_reading (λ d. value (summary_text d.test))

  -- its bundle
  abbrev pub pack_reading : Reading (List ℕ)
  pack_reading = and_then design_reading (λ d. value (bundle_text d.texts))

-- the other in place of what was read, where it was read
abbrev pub in_place_of : {X Y : Type 0} → Result X Refusal → Y → Result Y Refusal
in_place_of (Ok x) y = Ok y
in_place_of (Err refusal) y = Err refusal

module _ (files : List File) (frame : LogFrame) where
  -- the text of a log, where it breaks no rule
  abbrev pub log_file : List ℕ → Reading (List ℕ)
  log_file name = one_text (file_place files name) (λ text. in_place_of (by_rules for_fault (log_reading frame text)) text)

  -- the texts of logs, after those that are read before them
  abbrev pub logs_after : List (List ℕ) → List (List ℕ) → Reading (List (List ℕ))
  logs_after texts [] = value texts
  logs_after texts (name ∷ names) = and_then (log_file name) (λ text. logs_after (texts ++ text ∷ []) names)

  -- the texts of the logs of these names, each read and judged before the next is read
  abbrev pub logs_reading : List (List ℕ) → Reading (List (List ℕ))
  logs_reading names = logs_after [] names

  -- what is reported of the logs of these names
  abbrev pub logs_report : List (List ℕ) → (List (List ℕ) → List ℕ) → Reading (List ℕ)
  logs_report names report = and_then (logs_reading names) (λ texts. value (report texts))

-- the report of the logs of a request, over its scan test
abbrev pub with_design : List File → Request → ReadTexts → Reading (List ℕ)
with_design files r d = logs_report files (log_frame d.test r.design r.die) r.logs (die_report d.test r.design r.die)

-- the report of the files of a request
abbrev pub report_reading : List File → Request → Reading (List ℕ)
report_reading files r = and_then (design_reading files r.files) (with_design files r)

-- a status, the bytes to write, and the names of the files that decide it, in the order in which they are read
pub record Output : Type 0 where
  pub status : ℕ
  pub text : List ℕ
  pub read : List (List ℕ)

abbrev pub refusal_status : Refusal → ℕ
refusal_status Absent = 4
refusal_status TooLong = 11
refusal_status (Rule fault) = 3

-- the line of a file that is refused
abbrev pub refusal_line : List ℕ → Refusal → List ℕ
refusal_line name Absent = name ++ codes " absent\n"
refusal_line name TooLong = name ++ codes " too long\n"
refusal_line name (Rule fault) = name ++ (codes " line " ++ (decimal fault.line ++ (codes " rule " ++ (decimal fault.rule ++ codes "\n"))))

abbrev pub outcome_status : Result (List ℕ) (List ℕ × Refusal) → ℕ
outcome_status (Ok text) = 0
outcome_status (Err refused) = refusal_status refused.1

abbrev pub outcome_text : Result (List ℕ) (List ℕ × Refusal) → List ℕ
outcome_text (Ok text) = text
outcome_text (Err refused) = refusal_line refused.0 refused.1

-- the text that the files stand for, or the line of the first that is refused
abbrev pub output_of : Reading (List ℕ) → Output
output_of reading = record { status = outcome_status reading.outcome; text = outcome_text reading.outcome; read = reading.read }
