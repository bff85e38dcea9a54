-- What a diagnosis is made of, as a case.
use Rattle.std.specs.Prelude.{◌≡◌, ◌^◌, List, length, map}
use Rattle.std.specs.Arc.{arc_value}
use Rattle.scan_model.specs.declared.logs.Scored.{Scored}
use Rattle.scan_model.specs.ScanTest.{points_of}
use Rattle.scan_model.specs.Coverage.{bits_of}
use Rattle.scan_model.specs.Classes.{class_with}
use Rattle.scan_model.specs.MatchCounts.{candidates}
use Rattle.log_join.specs.Joining.{JoinedBits, StandsFor, IsJoinedOf}
use Rattle.diag_report.specs.declared.tally.Tally.{Tally}
use Rattle.diag_report.specs.BitTally.{tally_over, IsTallyOf}
use Rattle.diagnosis.specs.declared.diagnosed.Subject.{Subject}
use Rattle.diagnosis.specs.Designs.{facts_of}
use Rattle.diagnosis.specs.Cases.{CaseFacts, IsWholeCase}

abbrev pub subject_case : Subject → CaseFacts
subject_case s = record { design = s.design.now; die = s.die.now; test = s.parts.now; logs = map (λ log. arc_value log) s.logs.now }

-- its rows and its responses are those of its parts, and its logs are of the die
abbrev pub IsSubject : Subject → Type 0
IsSubject s = IsWholeCase (subject_case s) s.good.now s.expected.now

-- the joined bits are those of its logs, over its test
pub record AreItsLogs (s : Subject) (joined : JoinedBits) : Type 0 where
  pub size : IsJoinedOf (length s.parts.now.patterns) (length (points_of s.parts.now)) joined
  pub stands : StandsFor (facts_of (subject_case s).logs) joined

-- the faults that explain a failing bit of its logs, with their counts
abbrev pub subject_candidates : Subject → List Scored
subject_candidates s = candidates s.parts.now (facts_of (subject_case s).logs)

-- the tally is that of all bits of its test, by the classes over its logs, and lists bits at points of the test
pub record IsTallyOver (s : Subject) (tally : Tally) : Type 0 where
  pub classes : tally ≡ tally_over (class_with s.expected.now (facts_of (subject_case s).logs)) (bits_of s.parts.now)
  pub points : IsTallyOf (length (points_of s.parts.now)) (2 ^ 62) tally
