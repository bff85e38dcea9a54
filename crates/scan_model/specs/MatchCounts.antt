-- How the predictions of a fault match the logs of a die, counted bit by bit.
use Rattle.std.specs.Prelude.{ℕ, List, map, filter, count_by, Bool, not, ◌&&◌, nat_le}
use Rattle.std.specs.List.{enumerate_from}
use Rattle.scan_model.specs.declared.fault.Fault.{Fault}
use Rattle.scan_model.specs.declared.logs.Bit.{Bit}
use Rattle.scan_model.specs.declared.logs.BitClass.{BitClass}
use Rattle.scan_model.specs.declared.logs.LogFacts.{LogFacts}
use Rattle.scan_model.specs.declared.logs.Counts.{Counts}
use Rattle.scan_model.specs.declared.logs.Scored.{Scored}
use Rattle.scan_model.specs.ScanTest.{ScanTest}
use Rattle.scan_model.specs.Response.{predicts_fail}
use Rattle.scan_model.specs.Universe.{universe}
use Rattle.scan_model.specs.Coverage.{bits_of}
use Rattle.scan_model.specs.Classes.{class, is_failing, is_passing}

-- Tester fail, simulated fail: the failing bits at which the fault predicts a fail. Tester fail, simulated
-- pass: the other failing bits. Tester pass, simulated fail: the passing bits at which it predicts a fail.
abbrev pub counts_by : List Bit → (Bit → BitClass) → (Bit → Bool) → Counts
counts_by bits classes fails = record {
  tfsf = count_by (λ b. is_failing (classes b) && fails b) bits;
  tfsp = count_by (λ b. is_failing (classes b) && not (fails b)) bits;
  tpsf = count_by (λ b. is_passing (classes b) && fails b) bits;
}

abbrev pub scored_by : List Bit → (Bit → BitClass) → (Fault → Bit → Bool) → ℕ × Fault → Scored
scored_by bits classes fails e = record { place = e.0; counts = counts_by bits classes (fails e.1) }

-- it explains at least one failing bit
abbrev pub is_candidate : Scored → Bool
is_candidate s = nat_le 1 s.counts.tfsf

-- the faults of a list that explain at least one failing bit, in the order of their places in it
abbrev pub candidates_by : List Fault → List Bit → (Bit → BitClass) → (Fault → Bit → Bool) → List Scored
candidates_by faults bits classes fails = filter is_candidate (map (scored_by bits classes fails) (enumerate_from 0 faults))

-- over the bits of a test, their classes by its expected values and the fails that its faults predict
abbrev pub counts_of : ScanTest → List LogFacts → Fault → Counts
counts_of t logs f = counts_by (bits_of t) (class t logs) (predicts_fail t f)

abbrev pub scored : ScanTest → List LogFacts → ℕ × Fault → Scored
scored t logs e = scored_by (bits_of t) (class t logs) (predicts_fail t) e

abbrev pub candidates_among : List Fault → ScanTest → List LogFacts → List Scored
candidates_among faults t logs = candidates_by faults (bits_of t) (class t logs) (predicts_fail t)

-- those of the universe
abbrev pub candidates : ScanTest → List LogFacts → List Scored
candidates t logs = candidates_among (universe t) t logs
