-- The texts that are printed. A text is a list of lines, each its words with one space between, and LF.
use Rattle.std.specs.Prelude.{ℕ, ◌+◌, ◌-◌, List, [], ◌∷◌, ◌++◌, map, filter, flat_map, length, take, drop, decimal, codes, slice_index_or, Bool}
use Rattle.std.specs.List.{join_with_byte, enumerate_from}
use Rattle.scan_model.specs.declared.circuit.PinPlace.{PinPlace}
use Rattle.scan_model.specs.declared.circuit.PinPlace.TheVariants as place
use Rattle.scan_model.specs.declared.parts.Point.{Point}
use Rattle.scan_model.specs.declared.parts.Point.TheVariants.{Output, Cell}
use Rattle.scan_model.specs.declared.fault.Stuck.{Stuck}
use Rattle.scan_model.specs.declared.fault.Stuck.TheVariants as stuck
use Rattle.scan_model.specs.declared.fault.BridgeKind.{BridgeKind}
use Rattle.scan_model.specs.declared.fault.BridgeKind.TheVariants.{Dominant, WiredAnd, WiredOr, DominantAnd, DominantOr}
use Rattle.scan_model.specs.declared.fault.CellKind.{CellKind}
use Rattle.scan_model.specs.declared.fault.CellKind.TheVariants.{Stuck0, Stuck1, SlowRise, SlowFall}
use Rattle.scan_model.specs.declared.fault.Fault.{Fault}
use Rattle.scan_model.specs.declared.fault.Fault.TheVariants as fault
use Rattle.scan_model.specs.declared.logs.Bit.{Bit}
use Rattle.scan_model.specs.declared.logs.LogFacts.{LogFacts}
use Rattle.scan_model.specs.declared.logs.BitClass.{BitClass}
use Rattle.scan_model.specs.declared.logs.Scored.{Scored}
use Rattle.scan_model.specs.Netlist.{pin_at}
use Rattle.scan_model.specs.ScanTest.{ScanTest, name_of, chain_at, point_at}
use Rattle.scan_model.specs.Universe.{universe}
use Rattle.scan_model.specs.Coverage.{bits_of}
use Rattle.scan_model.specs.Classes.{class, is_conflict, is_masked, is_failing, is_passing}
use Rattle.scan_model.specs.MatchCounts.{candidates_among}
use Rattle.scan_model.specs.Ranking.{ranked}

-- words with a space between
abbrev pub spaced : List (List ℕ) → List ℕ
spaced words = join_with_byte 32 words

abbrev pub line : List (List ℕ) → List ℕ
line words = spaced words ++ 10 ∷ []

abbrev pub stuck_word : Stuck → List ℕ
stuck_word stuck.Zero = codes "sa0"
stuck_word stuck.One = codes "sa1"

abbrev pub cell_word : CellKind → List ℕ
cell_word Stuck0 = codes "stuck0"
cell_word Stuck1 = codes "stuck1"
cell_word SlowRise = codes "slow-rise"
cell_word SlowFall = codes "slow-fall"

abbrev pub bridge_word : BridgeKind → List ℕ
bridge_word Dominant = codes "dom"
bridge_word WiredAnd = codes "and"
bridge_word WiredOr = codes "or"
bridge_word DominantAnd = codes "dom-and"
bridge_word DominantOr = codes "dom-or"

-- the words for where a branch leads
abbrev pub branch_words : ScanTest → PinPlace → List (List ℕ)
branch_words t (place.Operand g i) = codes "to" ∷ name_of t g ∷ decimal (i + 1) ∷ []
branch_words t (place.Output k) = codes "to-output" ∷ []

-- the words for a stem, and for the branch at a pin
abbrev pub stem_site : ScanTest → ℕ → List (List ℕ)
stem_site t n = codes "stem" ∷ name_of t n ∷ []

abbrev pub branch_site : ScanTest → ℕ → List (List ℕ)
branch_site t p = codes "branch" ∷ name_of t (pin_at t.netlist p).net ∷ branch_words t (pin_at t.netlist p).place

abbrev pub fault_words : ScanTest → Fault → List (List ℕ)
fault_words t (fault.Stem n v) = stem_site t n ++ stuck_word v ∷ []
fault_words t (fault.Branch p v) = branch_site t p ++ stuck_word v ∷ []
fault_words t (fault.Bridge a b kind) = codes "bridge" ∷ name_of t a ∷ name_of t b ∷ bridge_word kind ∷ []
fault_words t (fault.Cell h i kind) = codes "cell" ∷ (chain_at t h).name ∷ decimal i ∷ cell_word kind ∷ []

abbrev pub fault_text : ScanTest → Fault → List ℕ
fault_text t f = spaced (fault_words t f)

abbrev pub point_words : ScanTest → Point → List (List ℕ)
point_words t (Output k) = codes "out" ∷ name_of t (slice_index_or t.netlist.outputs k 0) ∷ []
point_words t (Cell h i) = codes "cell" ∷ (chain_at t h).name ∷ decimal i ∷ []

-- The words of a report: its title, the words of a point and those of the fault at a place, both by number.
pub record ReportForm : Type 0 where
  pub title : List ℕ
  pub point : ℕ → List (List ℕ)
  pub fault : ℕ → List (List ℕ)

-- a line that names a bit
abbrev pub named_bit_line : ReportForm → List ℕ → Bit → List ℕ
named_bit_line form word b = line (word ∷ decimal b.pattern ∷ form.point b.point)

-- the line of the candidate of rank e.0, counted from 1
abbrev pub named_candidate_line : ReportForm → ℕ × Scored → List ℕ
named_candidate_line form e = line ((codes "candidate" ∷ decimal e.0 ∷ codes "fault" ∷ decimal e.1.place
    ∷ codes "tfsf" ∷ decimal e.1.counts.tfsf ∷ codes "tfsp" ∷ decimal e.1.counts.tfsp ∷ codes "tpsf" ∷ decimal e.1.counts.tpsf ∷ [])
    ++ form.fault e.1.place)

abbrev pub no_fault : Fault
no_fault = fault.Stem 0 stuck.Zero

-- the words over the faults of a list
abbrev pub report_form : List Fault → ScanTest → ReportForm
report_form faults t = record {
  title = codes "REPORT";
  point = λ k. point_words t (point_at t k);
  fault = λ place. fault_words t (slice_index_or faults place no_fault);
}

abbrev pub bit_line : ScanTest → List ℕ → Bit → List ℕ
bit_line t word b = named_bit_line (report_form [] t) word b

-- the place of the candidate is one of the list of faults
abbrev pub candidate_line : List Fault → ScanTest → ℕ × Scored → List ℕ
candidate_line faults t e = named_candidate_line (report_form faults t) e

-- those of some bits that are in a class, by the class of each
abbrev pub bits_among : List Bit → (Bit → BitClass) → (BitClass → Bool) → List Bit
bits_among bits classes is = filter (λ b. is (classes b)) bits

abbrev pub bits_in : ScanTest → (Bit → BitClass) → (BitClass → Bool) → List Bit
bits_in t classes is = bits_among (bits_of t) classes is

abbrev pub bits_that : ScanTest → List LogFacts → (BitClass → Bool) → List Bit
bits_that t logs is = bits_in t (class t logs) is

-- A report is a list of lines: nine of a head, the Conflict bits, the Masked bits, and the rows in their order, which
-- are places of faults with their counts.
abbrev pub layout_with : ReportForm → List Bit → List ℕ → List ℕ → ℕ → (Bit → BitClass) → List Scored → List (List ℕ)
layout_with form bits design die count classes rows =
    line (form.title ∷ decimal 1 ∷ [])
    ∷ line (codes "design" ∷ design ∷ [])
    ∷ line (codes "die" ∷ die ∷ [])
    ∷ line (codes "logs" ∷ decimal count ∷ [])
    ∷ line (codes "failing" ∷ decimal (length (bits_among bits classes is_failing)) ∷ [])
    ∷ line (codes "passing" ∷ decimal (length (bits_among bits classes is_passing)) ∷ [])
    ∷ line (codes "conflicts" ∷ decimal (length (bits_among bits classes is_conflict)) ∷ [])
    ∷ line (codes "masked" ∷ decimal (length (bits_among bits classes is_masked)) ∷ [])
    ∷ line (codes "candidates" ∷ decimal (length rows) ∷ [])
    ∷ (map (named_bit_line form (codes "conflict")) (bits_among bits classes is_conflict)
    ++ map (named_bit_line form (codes "masked")) (bits_among bits classes is_masked)
    ++ map (named_candidate_line form) (enumerate_from 1 rows))

-- over the bits of the test and the faults of a list
abbrev pub layout_by_class : List Fault → ScanTest → List ℕ → List ℕ → ℕ → (Bit → BitClass) → List Scored → List (List ℕ)
layout_by_class faults t design die count classes rows = layout_with (report_form faults t) (bits_of t) design die count classes rows

abbrev pub report_layout : List Fault → ScanTest → List ℕ → List ℕ → ℕ → List LogFacts → List Scored → List (List ℕ)
report_layout faults t design die count logs rows = layout_by_class faults t design die count (class t logs) rows

-- the report over the faults of a list: its rows are those that explain a failing bit, in ranking order
abbrev pub report_lines_among : List Fault → ScanTest → List ℕ → List ℕ → List LogFacts → List (List ℕ)
report_lines_among faults t design die logs = report_layout faults t design die (length logs) logs (ranked (candidates_among faults t logs))

-- pieces laid end to end
abbrev pub concatenated : List (List ℕ) → List ℕ
concatenated pieces = flat_map (λ piece. piece) pieces

abbrev pub report_text_among : List Fault → ScanTest → List ℕ → List ℕ → List LogFacts → List ℕ
report_text_among faults t design die logs = concatenated (report_lines_among faults t design die logs)

-- the report over all modelled faults
abbrev pub report_lines : ScanTest → List ℕ → List ℕ → List LogFacts → List (List ℕ)
report_lines t design die logs = report_lines_among (universe t) t design die logs

abbrev pub report_text : ScanTest → List ℕ → List ℕ → List LogFacts → List ℕ
report_text t design die logs = concatenated (report_lines t design die logs)

-- a hundred lines of a text from line number from on, counted from 1, or those that are left
abbrev pub page_of : List (List ℕ) → ℕ → List ℕ
page_of lines from = concatenated (take 100 (drop (from - 1) lines))
