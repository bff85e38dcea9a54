-- Two-frame patterns: a launch capture, and a second capture that the tester sees. Transition
-- faults, their classes and counts, the report, and the pattern text.
-- Seen: frame_observed, frame_response, frame_rows. Fails: frame_value, frame_fails,
-- makes_transition. Report: transitions, frame_class, frame_counts_of, frame_candidates, slow_words,
-- frame_form, frame_report. Patterns: launch_frame.
use Rattle.std.specs.Prelude.{ℕ, List, [], ◌∷◌, ◌++◌, map, length, Option, Some, None, Bool, false, codes, slice_index_or}
use Rattle.std.specs.List.{range_with_len}
use Rattle.scan_model.specs.declared.values.Tri.{Tri}
use Rattle.scan_model.specs.declared.fault.Stuck.{Stuck}
use Rattle.scan_model.specs.declared.fault.Stuck.TheVariants as stuck
use Rattle.scan_model.specs.declared.fault.Fault.{Fault}
use Rattle.scan_model.specs.declared.fault.Fault.TheVariants as fault
use Rattle.scan_model.specs.declared.parts.Chain.{Chain}
use Rattle.scan_model.specs.declared.parts.Point.{Point}
use Rattle.scan_model.specs.declared.logs.Bit.{Bit}
use Rattle.scan_model.specs.declared.logs.BitClass.{BitClass}
use Rattle.scan_model.specs.declared.logs.Counts.{Counts}
use Rattle.scan_model.specs.declared.logs.LogFacts.{LogFacts}
use Rattle.scan_model.specs.declared.logs.Scored.{Scored}
use Rattle.scan_model.specs.Values.{are_opposite}
use Rattle.scan_model.specs.Netlist.{Netlist, pin_at}
use Rattle.scan_model.specs.ChainShift.{value_at}
use Rattle.scan_model.specs.ScanTest.{ScanTest, points_of, point_at}
use Rattle.scan_model.specs.Universe.{stems, branches}
use Rattle.scan_model.specs.Coverage.{bits_of}
use Rattle.scan_model.specs.Classes.{class_of}
use Rattle.scan_model.specs.MatchCounts.{counts_by, candidates_by}
use Rattle.scan_model.specs.Ranking.{ranked}
use Rattle.scan_model.specs.ReportText.{ReportForm, point_words, stem_site, branch_site, fault_words, no_fault, layout_with, concatenated}
use Rattle.scan_model.specs.PatternText.{PatternFrame}
use Rattle.scan_model.specs.Masks.{point_pin}
use Rattle.frame_rows.specs.Frames.{frame_seen, second_value, net_changes}

-- ---- what the tester sees

abbrev pub frame_observed : ScanTest → Option Fault → ℕ → Point → Tri
frame_observed t f w p = frame_seen t f w (second_value t f w) (point_pin t p)

-- the expected value is definite and the fault gives the other definite value
abbrev pub frame_fails_at : ScanTest → Fault → ℕ → Point → Bool
frame_fails_at t f w p = are_opposite (frame_observed t None w p) (frame_observed t (Some f) w p)

-- a value for each point in test order
abbrev pub frame_response : ScanTest → Option Fault → ℕ → List Tri
frame_response t f w = map (frame_observed t f w) (points_of t)

-- the fault-free values of all patterns: a row for each, with a value for each point
abbrev pub frame_rows : ScanTest → List (List Tri)
frame_rows t = map (frame_response t None) (range_with_len 0 (length t.patterns))

abbrev pub frame_value : ScanTest → Option Fault → Bit → Tri
frame_value t f b = value_at (frame_response t f b.pattern) b.point

abbrev pub frame_fails : ScanTest → Fault → Bit → Bool
frame_fails t f b = are_opposite (frame_value t None b) (frame_value t (Some f) b)

-- the site makes the transition in pattern w
abbrev pub makes_transition : ScanTest → Fault → ℕ → Bool
makes_transition t (fault.Stem n v) w = net_changes t v w n
makes_transition t (fault.Branch p v) w = net_changes t v w (pin_at t.netlist p).net
makes_transition t (fault.Bridge a b kind) w = false
makes_transition t (fault.Cell h c kind) w = false

-- ---- transition faults and their counts

-- stems by net number, then the pins of nets with two or more pins; each slow to rise, then slow to fall
abbrev pub transitions : ScanTest → List Fault
transitions t = stems t ++ branches t

abbrev pub frame_class : ScanTest → List LogFacts → Bit → BitClass
frame_class t logs b = class_of logs (frame_value t None b) b

abbrev pub frame_counts_of : ScanTest → List LogFacts → Fault → Counts
frame_counts_of t logs f = counts_by (bits_of t) (frame_class t logs) (frame_fails t f)

-- the transition faults that explain at least one failing bit, in the order of their places
abbrev pub frame_candidates : ScanTest → List LogFacts → List Scored
frame_candidates t logs = candidates_by (transitions t) (bits_of t) (frame_class t logs) (frame_fails t)

-- ---- the report

abbrev pub slow_word : Stuck → List ℕ
slow_word stuck.Zero = codes "slow-rise"
slow_word stuck.One = codes "slow-fall"

abbrev pub slow_words : ScanTest → Fault → List (List ℕ)
slow_words t (fault.Stem n v) = stem_site t n ++ slow_word v ∷ []
slow_words t (fault.Branch p v) = branch_site t p ++ slow_word v ∷ []
slow_words t (fault.Bridge a b kind) = fault_words t (fault.Bridge a b kind)
slow_words t (fault.Cell h i kind) = fault_words t (fault.Cell h i kind)

abbrev pub frame_form : ScanTest → ReportForm
frame_form t = record {
  title = codes "LOC REPORT";
  point = λ k. point_words t (point_at t k);
  fault = λ place. slow_words t (slice_index_or (transitions t) place no_fault);
}

abbrev pub frame_layout : ScanTest → List ℕ → List ℕ → ℕ → (Bit → BitClass) → List Scored → List (List ℕ)
frame_layout t design die count classes rows = layout_with (frame_form t) (bits_of t) design die count classes rows

abbrev pub frame_report : ScanTest → List ℕ → List ℕ → List LogFacts → List ℕ
frame_report t design die logs = concatenated (frame_layout t design die (length logs) (frame_class t logs) (ranked (frame_candidates t logs)))

-- ---- the pattern text

-- lines `LOC p w1 w2 ..`, and no others
abbrev pub launch_frame : Netlist → List Chain → PatternFrame
launch_frame c chains = record { inputs = length c.inputs; lengths = map (λ h. length h.cells) chains; keyword = codes "LOC"; shifts = false }
