-- Which faults can explain a failing bit, judged by the fault-free values alone.
use Rattle.std.specs.Prelude.{ℕ, ◌+◌, List, map, filter, drop, Bool, true, false, ◌&&◌, ◌||◌, ◌==◌, nat_lt, nat_le, slice_index}
use Rattle.std.specs.List.{list_any, enumerate_from}
use Rattle.scan_model.specs.declared.circuit.PinPlace.{PinPlace}
use Rattle.scan_model.specs.declared.circuit.PinPlace.TheVariants as place
use Rattle.scan_model.specs.declared.circuit.Driver.{Driver}
use Rattle.scan_model.specs.declared.circuit.Driver.TheVariants.{Input, Flop, Gate}
use Rattle.scan_model.specs.declared.parts.PatternKind.{PatternKind}
use Rattle.scan_model.specs.declared.parts.PatternKind.TheVariants.{Capture, Shift}
use Rattle.scan_model.specs.declared.parts.Point.{Point}
use Rattle.scan_model.specs.declared.parts.Point.TheVariants.{Output, Cell}
use Rattle.scan_model.specs.declared.fault.Fault.{Fault}
use Rattle.scan_model.specs.declared.fault.Fault.TheVariants as fault
use Rattle.scan_model.specs.declared.logs.LogFacts.{LogFacts}
use Rattle.scan_model.specs.Values.{are_opposite}
use Rattle.scan_model.specs.Netlist.{pin_at, driver_of}
use Rattle.scan_model.specs.Cone.{in_fan_in}
use Rattle.scan_model.specs.ScanTest.{ScanTest, chain_at, pattern_at, point_at}
use Rattle.scan_model.specs.Faults.{stuck_value, bridged, takes}
use Rattle.scan_model.specs.NetValue.{good_value}
use Rattle.scan_model.specs.Response.{data_pin}
use Rattle.scan_model.specs.Universe.{universe}
use Rattle.scan_model.specs.Coverage.{bits_of}
use Rattle.scan_model.specs.Classes.{class, is_failing}

-- the net that a point observes: that of an output, or that of a cell's data pin
abbrev pub observed_net : ScanTest → Point → ℕ
observed_net t (Output k) = slice_index t.netlist.outputs k
observed_net t (Cell h i) = (pin_at t.netlist (data_pin t.netlist (slice_index (chain_at t h).cells i))).net

-- the point observes a net in the fan-out cone of n
abbrev pub net_reaches : ScanTest → ℕ → Point → Bool
net_reaches t n point = in_fan_in t.netlist n (observed_net t point)

abbrev pub is_output : ℕ → Point → Bool
is_output k (Output j) = k == j
is_output k (Cell h i) = false

-- the point is the cell of net n
abbrev pub is_cell : ScanTest → ℕ → Point → Bool
is_cell t n (Output k) = false
is_cell t n (Cell h i) = slice_index (chain_at t h).cells i == n

-- an operand reaches what its gate reaches, or its own cell
abbrev pub operand_reaches : ScanTest → Driver → ℕ → Point → Bool
operand_reaches t Input n point = false
operand_reaches t Flop n point = is_cell t n point
operand_reaches t (Gate kind) n point = net_reaches t n point

abbrev pub place_reaches : ScanTest → PinPlace → Point → Bool
place_reaches t (place.Operand n i) point = operand_reaches t (driver_of t.netlist n) n point
place_reaches t (place.Output k) point = is_output k point

-- in capture pattern w a site of the logic fault is flipped that reaches the point
abbrev pub flips : ScanTest → Fault → ℕ → Point → Bool
flips t (fault.Stem n v) w point = are_opposite (good_value t w n) (stuck_value v) && net_reaches t n point
flips t (fault.Branch p v) w point = are_opposite (good_value t w (pin_at t.netlist p).net) (stuck_value v) && place_reaches t (pin_at t.netlist p).place point
flips t (fault.Bridge a b kind) w point =
    (takes kind true false && are_opposite (good_value t w a) (bridged kind (good_value t w a) (good_value t w b)) && net_reaches t a point)
    || (are_opposite (good_value t w b) (bridged kind (good_value t w a) (good_value t w b)) && net_reaches t b point)
flips t (fault.Cell h c kind) w point = false

-- the point is a cell of chain h, at position c or upstream of it: from there its value shifts out past the output of cell c
abbrev pub is_cell_up_to : ℕ → ℕ → Point → Bool
is_cell_up_to h c (Output k) = false
is_cell_up_to h c (Cell g i) = (g == h) && nat_le i c

-- the point is a cell of chain h downstream of position c
abbrev pub is_cell_behind : ℕ → ℕ → Point → Bool
is_cell_behind h c (Output k) = false
is_cell_behind h c (Cell g i) = (g == h) && nat_lt c i

-- a failing bit at the point of a pattern of this kind makes the fault a suspect
abbrev pub can_explain : ScanTest → Fault → PatternKind → ℕ → Point → Bool
can_explain t (fault.Stem n v) Capture w point = flips t (fault.Stem n v) w point
can_explain t (fault.Branch p v) Capture w point = flips t (fault.Branch p v) w point
can_explain t (fault.Bridge a b kind) Capture w point = flips t (fault.Bridge a b kind) w point
can_explain t (fault.Cell h c kind) Capture w point = is_cell_up_to h c point || list_any (λ n. net_reaches t n point) (drop (c + 1) (chain_at t h).cells)
can_explain t (fault.Stem n v) Shift w point = false
can_explain t (fault.Branch p v) Shift w point = false
can_explain t (fault.Bridge a b kind) Shift w point = false
can_explain t (fault.Cell h c kind) Shift w point = is_cell_up_to h c point || is_cell_behind h c point

abbrev pub is_suspect : ScanTest → List LogFacts → Fault → Bool
is_suspect t logs f = list_any (λ b. is_failing (class t logs b) && can_explain t f (pattern_at t b.pattern).kind b.pattern (point_at t b.point)) (bits_of t)

-- the places of the suspects, in rising order
abbrev pub suspects : ScanTest → List LogFacts → List ℕ
suspects t logs = map (λ e. e.0) (filter (λ e. is_suspect t logs e.1) (enumerate_from 0 (universe t)))
