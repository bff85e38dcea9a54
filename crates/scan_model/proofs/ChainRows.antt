-- A faulty chain of three cells, and a circuit with three flops in one chain.
use Rattle.std.specs.Prelude.{◌≡◌, ℕ, [], ◌∷◌, refl, Some, None, length, false}
use Rattle.scan_model.specs.declared.fault.Profile.TheVariants as profile
use Rattle.scan_model.specs.declared.values.Tri.TheVariants.{Zero, One, Unknown}
use Rattle.scan_model.specs.declared.circuit.GateKind.TheVariants.{And, Nand, Or, Nor, Not}
use Rattle.scan_model.specs.declared.circuit.Driver.{Driver}
use Rattle.scan_model.specs.declared.circuit.Driver.TheVariants.{Input, Flop, Gate}
use Rattle.scan_model.specs.declared.circuit.Net.{Net}
use Rattle.scan_model.specs.declared.circuit.PinPlace.TheVariants.{Operand, Output}
use Rattle.scan_model.specs.declared.circuit.Pin.{Pin}
use Rattle.scan_model.specs.declared.parts.PatternKind.TheVariants.{Capture, Shift}
use Rattle.scan_model.specs.declared.parts.Pattern.{Pattern}
use Rattle.scan_model.specs.declared.parts.Point.TheVariants as point
use Rattle.scan_model.specs.declared.fault.CellKind.TheVariants.{Stuck1, SlowRise}
use Rattle.scan_model.specs.declared.fault.Fault.TheVariants.{Cell}
use Rattle.scan_model.specs.declared.logs.LogFacts.{LogFacts}
use Rattle.scan_model.specs.declared.logs.Scored.{Scored}
use Rattle.scan_model.specs.Netlist.{Netlist}
use Rattle.scan_model.specs.ChainShift.{load_with, unload_with}
use Rattle.scan_model.specs.ScanTest.{ScanTest, points_of}
use Rattle.scan_model.specs.NetValue.{values_of}
use Rattle.scan_model.specs.Response.{response}
use Rattle.scan_model.specs.Universe.{universe}
use Rattle.scan_model.specs.MatchCounts.{candidates}
use Rattle.scan_model.specs.Ranking.{ranked}

load_last : load_with Stuck1 2 (Zero ∷ Zero ∷ Zero ∷ []) ≡ Zero ∷ Zero ∷ Zero ∷ []
load_last = refl

unload_last : unload_with Stuck1 2 (Zero ∷ Zero ∷ Zero ∷ []) ≡ One ∷ One ∷ One ∷ []
unload_last = refl

abbrev pub net : Driver → ℕ → ℕ → Net
net driver first count = record { name = []; driver = driver; first_pin = first; pin_count = count }

abbrev pub operand : ℕ → ℕ → ℕ → Pin
operand n g i = record { net = n; place = Operand g i }

abbrev pub s27 : Netlist
s27 = record {
  nets = net Input 0 0 ∷ net Input 0 0 ∷ net Input 0 0 ∷ net Input 0 0
      ∷ net Flop 1 1 ∷ net Flop 2 1 ∷ net Flop 3 1
      ∷ net (Gate Not) 4 1 ∷ net (Gate Not) 5 1 ∷ net (Gate And) 6 2 ∷ net (Gate Or) 8 2 ∷ net (Gate Or) 10 2
      ∷ net (Gate Nand) 12 2 ∷ net (Gate Nor) 14 2 ∷ net (Gate Nor) 16 2 ∷ net (Gate Nor) 18 2 ∷ net (Gate Nor) 20 2 ∷ [];
  pins = record { net = 8; place = Output 0 }
      ∷ operand 13 4 0 ∷ operand 14 5 0 ∷ operand 16 6 0
      ∷ operand 0 7 0 ∷ operand 14 8 0
      ∷ operand 7 9 0 ∷ operand 5 9 1
      ∷ operand 15 10 0 ∷ operand 9 10 1
      ∷ operand 3 11 0 ∷ operand 9 11 1
      ∷ operand 11 12 0 ∷ operand 10 12 1
      ∷ operand 7 13 0 ∷ operand 14 13 1
      ∷ operand 4 14 0 ∷ operand 12 14 1
      ∷ operand 1 15 0 ∷ operand 6 15 1
      ∷ operand 2 16 0 ∷ operand 15 16 1 ∷ [];
  inputs = 0 ∷ 1 ∷ 2 ∷ 3 ∷ [];
  outputs = 8 ∷ [];
}

abbrev pub s27_with : Pattern → ScanTest
s27_with w = record { profile = profile.One; netlist = s27; chains = record { name = []; cells = 4 ∷ 5 ∷ 6 ∷ [] } ∷ []; patterns = w ∷ []; pairs = record { kept = []; left_out = [] } }

abbrev pub zeros : Pattern
zeros = record { kind = Capture; inputs = Zero ∷ Zero ∷ Zero ∷ Zero ∷ []; loads = (Zero ∷ Zero ∷ Zero ∷ []) ∷ [] }

abbrev pub shift : Pattern
shift = record { kind = Shift; inputs = []; loads = (One ∷ Zero ∷ One ∷ []) ∷ [] }

test_order : points_of (s27_with zeros) ≡ point.Output 0 ∷ point.Cell 0 2 ∷ point.Cell 0 1 ∷ point.Cell 0 0 ∷ []
test_order = refl

faults : length (universe (s27_with zeros)) ≡ 64
faults = refl

good : response (s27_with zeros) None 0 ≡ One ∷ Zero ∷ Zero ∷ Zero ∷ []
unfolding values_of
good = refl

slow : response (s27_with shift) (Some (Cell 0 1 SlowRise)) 0 ≡ Unknown ∷ Unknown ∷ Zero ∷ Zero ∷ []
unfolding values_of
slow = refl

abbrev pub log : ℕ → LogFacts
log k = record { ranges = record { first = 0; last = 0 } ∷ []; truncated = false; fails = record { pattern = 0; point = k } ∷ []; cuts = [] }

abbrev pub row : ℕ → ℕ → ℕ → ℕ → Scored
row k a b c = record { place = k; counts = record { tfsf = a; tfsp = b; tpsf = c } }

of_output : ranked (candidates (s27_with zeros) (log 0 ∷ [])) ≡ row 16 1 0 0 ∷ row 37 1 0 0 ∷ row 7 1 0 1 ∷ row 11 1 0 1 ∷ row 19 1 0 1 ∷ row 23 1 0 1 ∷ row 24 1 0 1 ∷ row 29 1 0 1 ∷ row 45 1 0 1 ∷ row 53 1 0 3 ∷ []
unfolding values_of
of_output = refl

of_shift : ranked (candidates (s27_with shift) (log 3 ∷ [])) ≡ row 58 1 0 0 ∷ row 62 1 0 0 ∷ row 52 1 0 1 ∷ row 56 1 0 1 ∷ row 60 1 0 1 ∷ []
unfolding values_of
of_shift = refl
