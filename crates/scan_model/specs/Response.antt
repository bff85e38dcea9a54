-- What the tester sees: the response of a fault, the expected values, and the fails that a fault predicts.
use Rattle.std.specs.Prelude.{ℕ, List, [], map, length, Option, Some, None, Bool, false, ◌==◌, slice_index_or}
use Rattle.std.specs.List.{position_or_len, range_with_len}
use Rattle.scan_model.specs.declared.values.Tri.{Tri}
use Rattle.scan_model.specs.declared.values.Tri.TheVariants.{Unknown}
use Rattle.scan_model.specs.declared.circuit.PinPlace.{PinPlace}
use Rattle.scan_model.specs.declared.circuit.PinPlace.TheVariants as place
use Rattle.scan_model.specs.declared.parts.PatternKind.{PatternKind}
use Rattle.scan_model.specs.declared.parts.PatternKind.TheVariants.{Capture, Shift}
use Rattle.scan_model.specs.declared.parts.Point.{Point}
use Rattle.scan_model.specs.declared.parts.Point.TheVariants.{Output, Cell}
use Rattle.scan_model.specs.declared.fault.Fault.{Fault}
use Rattle.scan_model.specs.declared.logs.Bit.{Bit}
use Rattle.scan_model.specs.Values.{are_opposite}
use Rattle.scan_model.specs.Netlist.{Netlist, net_at}
use Rattle.scan_model.specs.ChainShift.{value_at}
use Rattle.scan_model.specs.ScanTest.{ScanTest, chain_at, pattern_at, points_of}
use Rattle.scan_model.specs.Faults.{loaded, unloaded}
use Rattle.scan_model.specs.NetValue.{pin_value}

abbrev pub is_at_output : ℕ → PinPlace → Bool
is_at_output k (place.Operand n i) = false
is_at_output k (place.Output j) = j == k

-- the pin of output k
abbrev pub output_pin : Netlist → ℕ → ℕ
output_pin c k = position_or_len (λ p. is_at_output k p.place) c.pins

-- the data pin of a cell
abbrev pub data_pin : Netlist → ℕ → ℕ
data_pin c n = (net_at c n).first_pin

-- the row that chain h captures in pattern w
abbrev pub captured : ScanTest → Option Fault → ℕ → ℕ → List Tri
captured t fault w h = map (λ n. pin_value t fault w (data_pin t.netlist n)) (chain_at t h).cells

-- the row that chain h holds before it is unloaded: what it captured, or what it was loaded with
abbrev pub held : ScanTest → Option Fault → PatternKind → ℕ → ℕ → List Tri
held t fault Capture w h = captured t fault w h
held t fault Shift w h = loaded fault h (slice_index_or (pattern_at t w).loads h [])

-- an output shows X while chains only shift
abbrev pub output_value : ScanTest → Option Fault → PatternKind → ℕ → ℕ → Tri
output_value t fault Capture w k = pin_value t fault w (output_pin t.netlist k)
output_value t fault Shift w k = Unknown

abbrev pub observed : ScanTest → Option Fault → ℕ → Point → Tri
observed t fault w (Output k) = output_value t fault (pattern_at t w).kind w k
observed t fault w (Cell h i) = value_at (unloaded fault h (held t fault (pattern_at t w).kind w h)) i

-- a value for each point in test order
abbrev pub response : ScanTest → Option Fault → ℕ → List Tri
response t fault w = map (observed t fault w) (points_of t)

-- the value under the fault, or without one, at a bit
abbrev pub value_of_bit : ScanTest → Option Fault → Bit → Tri
value_of_bit t fault b = value_at (response t fault b.pattern) b.point

abbrev pub expected : ScanTest → Bit → Tri
expected t b = value_of_bit t None b

-- the expected value is definite and the fault gives the other definite value
abbrev pub predicts_fail : ScanTest → Fault → Bit → Bool
predicts_fail t fault b = are_opposite (expected t b) (value_of_bit t (Some fault) b)

-- the fault-free values of all patterns: a row for each, with a value for each point
abbrev pub expected_rows : ScanTest → List (List Tri)
expected_rows t = map (response t None) (range_with_len 0 (length t.patterns))
