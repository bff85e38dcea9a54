-- Patterns that one fault explains: it predicts a fail at each Failing bit of the pattern and at none of its Passing bits.
use Rattle.std.specs.Prelude.{ℕ, List, map, filter, length, count_by, Bool, not, ◌&&◌, ◌||◌, nat_lt}
use Rattle.std.specs.List.{list_any, range_with_len, enumerate_from}
use Rattle.scan_model.specs.declared.fault.Fault.{Fault}
use Rattle.scan_model.specs.declared.logs.Bit.{Bit}
use Rattle.scan_model.specs.declared.logs.LogFacts.{LogFacts}
use Rattle.scan_model.specs.ScanTest.{ScanTest, points_of}
use Rattle.scan_model.specs.Coverage.{bit_of}
use Rattle.scan_model.specs.Classes.{class, is_failing, is_passing}
use Rattle.scan_model.specs.Response.{predicts_fail}
use Rattle.scan_model.specs.Universe.{universe}
use Rattle.slat_view.specs.declared.slat.SlatCount.{SlatCount}

-- the bits of a pattern
abbrev pub pattern_bits : ScanTest → ℕ → List Bit
pattern_bits t w = map (bit_of w) (range_with_len 0 (length (points_of t)))

-- a failing pattern: it has a Failing bit
abbrev pub is_failing_pattern : ScanTest → List LogFacts → ℕ → Bool
is_failing_pattern t logs w = list_any (λ b. is_failing (class t logs b)) (pattern_bits t w)

-- the fault is against the bit: it predicts none of its fail, or a fail where it passed
abbrev pub is_against : ScanTest → List LogFacts → Fault → Bit → Bool
is_against t logs f b = (is_failing (class t logs b) && not (predicts_fail t f b)) || (is_passing (class t logs b) && predicts_fail t f b)

-- the fault fits a failing pattern: no bit of it is against
abbrev pub fits : ScanTest → List LogFacts → ℕ → Fault → Bool
fits t logs w f = is_failing_pattern t logs w && not (list_any (is_against t logs f) (pattern_bits t w))

-- an explained pattern: some fault of the list fits it
abbrev pub is_explained : ScanTest → List LogFacts → ℕ → Bool
is_explained t logs w = list_any (fits t logs w) (universe t)

-- the places of the faults that fit a pattern, in rising order
abbrev pub fitting_places : ScanTest → List LogFacts → ℕ → List ℕ
fitting_places t logs w = map (λ e. e.0) (filter (λ e. fits t logs w e.1) (enumerate_from 0 (universe t)))

abbrev pub pattern_numbers : ScanTest → List ℕ
pattern_numbers t = range_with_len 0 (length t.patterns)

-- how many patterns are failing
abbrev pub failing_patterns : ScanTest → List LogFacts → ℕ
failing_patterns t logs = count_by (is_failing_pattern t logs) (pattern_numbers t)

-- a pattern, with the number of faults that fit it
abbrev pub slat_count : ScanTest → List LogFacts → ℕ → SlatCount
slat_count t logs w = record { pattern = w; faults = length (fitting_places t logs w) }

-- the explained patterns in rising order, each with the number of faults that fit it
abbrev pub slat_rows : ScanTest → List LogFacts → List SlatCount
slat_rows t logs = map (slat_count t logs) (filter (is_explained t logs) (pattern_numbers t))
