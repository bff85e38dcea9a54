-- A circuit of six NAND gates, and what the definitions compute for it.
use Rattle.std.specs.Prelude.{◌≡◌, ℕ, List, [], ◌∷◌, refl, false, None}
use Rattle.scan_model.specs.declared.fault.Profile.TheVariants as profile
use Rattle.scan_model.specs.declared.values.Tri.TheVariants.{Zero, One}
use Rattle.scan_model.specs.declared.circuit.GateKind.TheVariants.{Nand}
use Rattle.scan_model.specs.declared.circuit.Driver.TheVariants.{Input, Gate}
use Rattle.scan_model.specs.declared.circuit.Net.{Net}
use Rattle.scan_model.specs.declared.circuit.PinPlace.TheVariants.{Operand, Output}
use Rattle.scan_model.specs.declared.circuit.Pin.{Pin}
use Rattle.scan_model.specs.declared.parts.PatternKind.TheVariants.{Capture}
use Rattle.scan_model.specs.declared.parts.Pattern.{Pattern}
use Rattle.scan_model.specs.declared.parts.Point.TheVariants as point
use Rattle.scan_model.specs.declared.logs.Bit.{Bit}
use Rattle.scan_model.specs.Netlist.{Netlist}
use Rattle.scan_model.specs.Cone.{fan_out}
use Rattle.scan_model.specs.ScanTest.{ScanTest, points_of}
use Rattle.scan_model.specs.NetValue.{values_of}
use Rattle.scan_model.specs.Response.{response}
use Rattle.std.specs.Prelude.{length, codes}
use Rattle.std.specs.Fmt.{digits}
use Rattle.scan_model.specs.declared.logs.LogFacts.{LogFacts}
use Rattle.scan_model.specs.declared.logs.Scored.{Scored}
use Rattle.scan_model.specs.declared.logs.BitClass.TheVariants.{Failing, Passing}
use Rattle.scan_model.specs.Universe.{universe}
use Rattle.scan_model.specs.Classes.{class}
use Rattle.scan_model.specs.MatchCounts.{candidates}
use Rattle.scan_model.specs.ReportText.{report_text, concatenated, line}
use Rattle.scan_model.specs.Suspect.{suspects}

abbrev pub input : List ℕ → Net
input name = record { name = name; driver = Input; first_pin = 2; pin_count = 0 }

abbrev pub nand : List ℕ → ℕ → Net
nand name p = record { name = name; driver = Gate Nand; first_pin = p; pin_count = 2 }

abbrev pub operand : ℕ → ℕ → ℕ → Pin
operand n g i = record { net = n; place = Operand g i }

abbrev pub output : ℕ → ℕ → Pin
output n k = record { net = n; place = Output k }

abbrev pub c17 : Netlist
c17 = record {
  nets = input (49 ∷ []) ∷ input (50 ∷ []) ∷ input (51 ∷ []) ∷ input (54 ∷ []) ∷ input (55 ∷ [])
      ∷ nand (49 ∷ 48 ∷ []) 2 ∷ nand (49 ∷ 49 ∷ []) 4 ∷ nand (49 ∷ 54 ∷ []) 6 ∷ nand (49 ∷ 57 ∷ []) 8 ∷ nand (50 ∷ 50 ∷ []) 10 ∷ nand (50 ∷ 51 ∷ []) 12 ∷ [];
  pins = output 9 0 ∷ output 10 1
      ∷ operand 0 5 0 ∷ operand 2 5 1
      ∷ operand 2 6 0 ∷ operand 3 6 1
      ∷ operand 1 7 0 ∷ operand 6 7 1
      ∷ operand 6 8 0 ∷ operand 4 8 1
      ∷ operand 5 9 0 ∷ operand 7 9 1
      ∷ operand 7 10 0 ∷ operand 8 10 1 ∷ [];
  inputs = 0 ∷ 1 ∷ 2 ∷ 3 ∷ 4 ∷ [];
  outputs = 9 ∷ 10 ∷ [];
}

abbrev pub ones : Pattern
ones = record { kind = Capture; inputs = One ∷ One ∷ One ∷ One ∷ One ∷ []; loads = [] }

abbrev pub c17_test : ScanTest
c17_test = record { profile = profile.One; netlist = c17; chains = []; patterns = ones ∷ []; pairs = record { kept = []; left_out = [] } }

abbrev pub bit : ℕ → ℕ → Bit
bit w k = record { pattern = w; point = k }

points : points_of c17_test ≡ point.Output 0 ∷ point.Output 1 ∷ []
points = refl

good : response c17_test None 0 ≡ One ∷ Zero ∷ []
unfolding values_of
good = refl

-- a log that fails output 22
abbrev pub fails_22 : LogFacts
fails_22 = record { ranges = record { first = 0; last = 0 } ∷ []; truncated = false; fails = bit 0 0 ∷ []; cuts = [] }

classes : class c17_test (fails_22 ∷ []) (bit 0 0) ≡ Failing
unfolding values_of
classes = refl

passing : class c17_test (fails_22 ∷ []) (bit 0 1) ≡ Passing
unfolding values_of
passing = refl

thirty_four : length (universe c17_test) ≡ 34
thirty_four = refl

abbrev pub one_zero_zero : ℕ → Scored
one_zero_zero k = record { place = k; counts = record { tfsf = 1; tfsp = 0; tpsf = 0 } }

candidates_of : candidates c17_test (fails_22 ∷ []) ≡ one_zero_zero 0 ∷ one_zero_zero 11 ∷ one_zero_zero 18 ∷ one_zero_zero 22 ∷ []
unfolding values_of
candidates_of = refl

suspects_of : suspects c17_test (fails_22 ∷ []) ≡ 0 ∷ 2 ∷ 4 ∷ 6 ∷ 11 ∷ 13 ∷ 14 ∷ 18 ∷ 22 ∷ 24 ∷ 27 ∷ 30 ∷ []
unfolding values_of
suspects_of = refl

cone : fan_out c17 6 ≡ 6 ∷ 7 ∷ 8 ∷ 9 ∷ 10 ∷ []
cone = refl

abbrev pub lines : List (List ℕ)
lines =
    line (codes "REPORT 1" ∷ []) ∷ line (codes "design c17" ∷ []) ∷ line (codes "die D1" ∷ []) ∷ line (codes "logs 1" ∷ [])
    ∷ line (codes "failing 1" ∷ []) ∷ line (codes "passing 1" ∷ []) ∷ line (codes "conflicts 0" ∷ []) ∷ line (codes "masked 0" ∷ []) ∷ line (codes "candidates 4" ∷ [])
    ∷ line (codes "candidate 1 fault 0 tfsf 1 tfsp 0 tpsf 0 stem 1 sa0" ∷ [])
    ∷ line (codes "candidate 2 fault 11 tfsf 1 tfsp 0 tpsf 0 stem 10 sa1" ∷ [])
    ∷ line (codes "candidate 3 fault 18 tfsf 1 tfsp 0 tpsf 0 stem 22 sa0" ∷ [])
    ∷ line (codes "candidate 4 fault 22 tfsf 1 tfsp 0 tpsf 0 branch 3 to 10 2 sa0" ∷ []) ∷ []

report : report_text c17_test (codes "c17") (codes "D1") (fails_22 ∷ []) ≡ concatenated lines
unfolding values_of digits
report = refl

report_len : length (concatenated lines) ≡ 311
report_len = refl
