-- Designs, logs and dies as contracts see them.
use Rattle.std.specs.Prelude.{◌≡◌, ℕ, List, map, Option, All, Contains, IfSome, true, Ok}
use Rattle.std.specs.List.{IsDistinct}
use Rattle.std.specs.Str.{bytes_eq}
use Rattle.sha2.specs.Sha256.{sha256}
use Rattle.scan_model.specs.declared.values.Tri.{Tri}
use Rattle.scan_model.specs.declared.logs.LogFacts.{LogFacts}
use Rattle.scan_model.specs.ScanTest.{ScanTest}
use Rattle.scan_model.specs.Words.{is_tag}
use Rattle.scan_model.specs.Response.{expected_rows}
use Rattle.scan_model.specs.LogText.{log_frame, log_reading}
use Rattle.scan_model.specs.DieReport.{die_report, logs_of_texts}
use Rattle.scan_model.specs.ReportText.{report_lines}
use Rattle.packed_sim.specs.declared.good.PackedGood.{PackedGood}
use Rattle.packed_sim.specs.PackedParts.{BelongsTo}
use Rattle.diagnosis.specs.Bundle.{bundle_reading}

-- a design: its name, its bundle, and the scan test that the bundle stands for
pub record DesignFacts : Type 0 where
  pub name : List ℕ
  pub text : List ℕ
  pub test : ScanTest

pub record IsDesign (d : DesignFacts) : Type 0 where
  pub name : is_tag d.name ≡ true
  pub stands : bundle_reading d.text ≡ Ok d.test

-- with the digest of its bundle, its expected values, and fault-free rows of its test, where it keeps them
pub record IsWholeDesign (d : DesignFacts) (digest : List ℕ) (expected : List (List Tri)) (good : Option PackedGood) : Type 0 where
  pub design : IsDesign d
  pub digest_of_text : digest ≡ sha256 d.text
  pub expected_of_test : expected ≡ expected_rows d.test
  pub good_of_test : IfSome good (BelongsTo d.test)

-- a log: the names of its design and die, its text, and what the text stands for
pub record ReadLogFacts : Type 0 where
  pub design : List ℕ
  pub die : List ℕ
  pub text : List ℕ
  pub facts : LogFacts

-- the log's text stands for its facts, over this scan test
abbrev pub StandsOver : ScanTest → ReadLogFacts → Type 0
StandsOver t log = log_reading (log_frame t log.design log.die) log.text ≡ Ok log.facts

-- a die of a design with logs of it
pub record ViewFacts : Type 0 where
  pub design : DesignFacts
  pub die : List ℕ
  pub logs : List ReadLogFacts

abbrev pub texts_of : List ReadLogFacts → List (List ℕ)
texts_of logs = map (λ log. log.text) logs

abbrev pub facts_of : List ReadLogFacts → List LogFacts
facts_of logs = map (λ log. log.facts) logs

-- the log is of this design and die, and stands for its facts
pub record IsLogOf (d : DesignFacts) (die : List ℕ) (log : ReadLogFacts) : Type 0 where
  pub of_design : log.design ≡ d.name
  pub of_die : log.die ≡ die
  pub stands : StandsOver d.test log

pub record IsView (v : ViewFacts) : Type 0 where
  pub design : IsDesign v.design
  pub die : is_tag v.die ≡ true
  pub logs : All (IsLogOf v.design v.die) v.logs
  pub differ : IsDistinct bytes_eq (texts_of v.logs)

-- the lines of the report of its logs
abbrev pub view_lines : ViewFacts → List (List ℕ)
view_lines v = report_lines v.design.test v.design.name v.die (logs_of_texts v.design.test v.design.name v.die (texts_of v.logs))

-- the report of its logs
abbrev pub view_report : ViewFacts → List ℕ
view_report v = die_report v.design.test v.design.name v.die (texts_of v.logs)

-- each text of one list is in the other, so that they differ in order and repeats alone
abbrev pub HaveSameTexts : List (List ℕ) → List (List ℕ) → Type 0
HaveSameTexts texts others = All (Contains others) texts × All (Contains texts) others
