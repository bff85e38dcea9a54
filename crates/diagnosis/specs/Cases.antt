-- Dies under diagnosis as contracts see them.
use Rattle.std.specs.Prelude.{◌≡◌, ◌+◌, ℕ, List, [], ◌∷◌, ◌++◌, length, All, true, false, Ok}
use Rattle.std.specs.List.{IsDistinct, position_or_len}
use Rattle.std.specs.Str.{bytes_eq}
use Rattle.scan_model.specs.declared.values.Tri.{Tri}
use Rattle.scan_model.specs.declared.logs.LogFacts.{LogFacts}
use Rattle.scan_model.specs.ScanTest.{ScanTest}
use Rattle.scan_model.specs.Words.{is_tag, has_word}
use Rattle.scan_model.specs.Response.{expected_rows}
use Rattle.scan_model.specs.LogText.{log_frame, log_reading}
use Rattle.scan_model.specs.DieReport.{die_report, logs_of_texts}
use Rattle.scan_model.specs.ReportText.{report_lines}
use Rattle.packed_sim.specs.declared.good.PackedGood.{PackedGood}
use Rattle.packed_sim.specs.PackedParts.{BelongsTo}
use Rattle.diagnosis.specs.declared.put.Put.{Put}
use Rattle.diagnosis.specs.declared.put.Put.TheVariants.{Created, Same}
use Rattle.diagnosis.specs.Designs.{ReadLogFacts, ViewFacts, StandsOver, texts_of}

-- a die under diagnosis: the names of its design and of the die, the scan test of the design, and logs of the die
pub record CaseFacts : Type 0 where
  pub design : List ℕ
  pub die : List ℕ
  pub test : ScanTest
  pub logs : List ReadLogFacts

-- the log is of the design and the die of these names, and stands for its facts over the test
pub record IsLogOver (t : ScanTest) (design die : List ℕ) (log : ReadLogFacts) : Type 0 where
  pub of_design : log.design ≡ design
  pub of_die : log.die ≡ die
  pub stands : StandsOver t log

pub record IsCase (k : CaseFacts) : Type 0 where
  pub design : is_tag k.design ≡ true
  pub die : is_tag k.die ≡ true
  pub logs : All (IsLogOver k.test k.design k.die) k.logs
  pub differ : IsDistinct bytes_eq (texts_of k.logs)

-- with the fault-free rows and the expected values of its test
pub record IsWholeCase (k : CaseFacts) (good : PackedGood) (expected : List (List Tri)) : Type 0 where
  pub case : IsCase k
  pub good_of_test : BelongsTo k.test good
  pub expected_of_test : expected ≡ expected_rows k.test

-- the case with these logs in place of its own
abbrev pub with_logs : CaseFacts → List ReadLogFacts → CaseFacts
with_logs k logs = record { design = k.design; die = k.die; test = k.test; logs = logs }

-- what a view of a die is as a case, without its bundle
abbrev pub case_of : ViewFacts → CaseFacts
case_of v = record { design = v.design.name; die = v.die; test = v.design.test; logs = v.logs }

-- the lines of the report of its logs
abbrev pub case_lines : CaseFacts → List (List ℕ)
case_lines k = report_lines k.test k.design k.die (logs_of_texts k.test k.design k.die (texts_of k.logs))

-- the report of its logs
abbrev pub case_report : CaseFacts → List ℕ
case_report k = die_report k.test k.design k.die (texts_of k.logs)

-- ---- a log is added

-- a log of a new text stands last; of an equal text there is one, and nothing changes
abbrev pub AddedAmong : Put → ReadLogFacts → List ReadLogFacts → List ReadLogFacts → Type 0
AddedAmong (Created number) log old new =
    (has_word (texts_of old) log.text ≡ false) × (number ≡ length old + 1) × (new ≡ old ++ log ∷ [])
AddedAmong (Same number) log old new =
    (has_word (texts_of old) log.text ≡ true) × (number ≡ position_or_len (bytes_eq log.text) (texts_of old) + 1) × (new ≡ old)

-- the log of the case that a text is, where it stands for these facts
abbrev pub log_in : CaseFacts → List ℕ → LogFacts → ReadLogFacts
log_in k text facts = record { design = k.design; die = k.die; text = text; facts = facts }

-- the text breaks no rule, and its log is added
pub record IsTextAdded (put : Put) (text : List ℕ) (old : CaseFacts) (new : List ReadLogFacts) : Type 0 where
  pub facts : LogFacts
  pub reads : log_reading (log_frame old.test old.design old.die) text ≡ Ok facts
  pub added : AddedAmong put (log_in old text facts) old.logs new
