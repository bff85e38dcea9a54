-- When what is kept of dies is that of a list of deeds.
use Rattle.std.specs.Prelude.{◌≡◌, ◌≤◌, ℕ, List, [], All, length, take, Option, Some, IfSome}
use Rattle.std.specs.Option.{option_map}
use Rattle.std.specs.Arc.{arc_value}
use Rattle.scan_model.specs.declared.logs.LogFacts.{LogFacts}
use Rattle.scan_model.specs.ScanTest.{ScanTest}
use Rattle.scan_model.specs.DieReport.{logs_of_texts}
use Rattle.scan_model.specs.ReportText.{report_lines}
use Rattle.desk_outside.specs.declared.deed.Deed.{Deed}
use Rattle.diagnosis.specs.Designs.{ViewFacts}
use Rattle.slat_view.specs.declared.whole.WholeSlat.{WholeSlat}
use Rattle.slat_view.specs.WholeCounts.{IsWholeOf}
use Rattle.book.specs.Deeds.{design_test, die_logs}
use Rattle.report_cache.specs.declared.findings.Findings.{Findings}
use Rattle.report_cache.specs.declared.key.ReportKey.{ReportKey}

-- the lines of a report and its explained patterns, each if it is kept, and what they are kept for
pub record KeptReport : Type 0 where
  pub design : List ℕ
  pub die : List ℕ
  pub revision : ℕ
  pub lines : Option (List (List ℕ))
  pub slat : Option WholeSlat

abbrev pub report_for : ReportKey → Findings → KeptReport
report_for key findings = record {
  design = key.design.items;
  die = key.die.items;
  revision = key.revision;
  lines = option_map arc_value findings.report;
  slat = option_map arc_value findings.slat;
}

abbrev pub kept_report : ReportKey × Findings → KeptReport
kept_report entry = report_for entry.0 entry.1

-- the key of the report of a view
pub record IsKeyOf (key : ReportKey) (v : ViewFacts) : Type 0 where
  pub design : key.design.items ≡ v.design.name
  pub die : key.die.items ≡ v.die
  pub revision : key.revision ≡ length v.logs

-- something holds of the scan test of a design and of a die's first logs in these deeds, as many as the revision says
pub record HoldsOf (deeds : List Deed) (name die : List ℕ) (revision : ℕ) (P : ScanTest → List LogFacts → Type 0) : Type 0 where
  pub test : ScanTest
  pub design : design_test deeds name ≡ Some test
  pub logs : revision ≤ length (die_logs deeds name die)
  pub holds : P test (logs_of_texts test name die (take revision (die_logs deeds name die)))

-- the lines are those of the report over these logs
abbrev pub AreLinesIn : List Deed → KeptReport → List (List ℕ) → Type 0
AreLinesIn deeds kept lines = HoldsOf deeds kept.design kept.die kept.revision (λ t logs. lines ≡ report_lines t kept.design kept.die logs)

-- the explained patterns are those of these logs
abbrev pub IsSlatIn : List Deed → KeptReport → WholeSlat → Type 0
IsSlatIn deeds kept slat = HoldsOf deeds kept.design kept.die kept.revision (λ t logs. IsWholeOf t logs slat)

-- what is kept is the report of its die over the die's first logs in these deeds
pub record IsReportIn (deeds : List Deed) (kept : KeptReport) : Type 0 where
  pub lines : IfSome kept.lines (AreLinesIn deeds kept)
  pub slat : IfSome kept.slat (IsSlatIn deeds kept)

-- how many reports a cache keeps at most, and those that it keeps
pub record CacheFacts : Type 0 where
  pub entries : ℕ
  pub kept : List KeptReport

-- a cache that keeps none yet
abbrev pub fresh_cache : ℕ → CacheFacts
fresh_cache entries = record { entries = entries; kept = [] }

-- each report that it keeps is
abbrev pub IsTrueFor : CacheFacts → List Deed → Type 0
IsTrueFor cache deeds = All (IsReportIn deeds) cache.kept
