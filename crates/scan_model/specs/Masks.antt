-- In which patterns a logic fault flips a net, and where one flip of the net shows.
use Rattle.std.specs.Prelude.{ℕ, ◌+◌, List, map, [], ◌∷◌, Bool, false, cond, ◌&&◌, ◌||◌, ◌==◌, drop, slice_index, Some, None}
use Rattle.scan_model.specs.declared.values.Tri.{Tri}
use Rattle.scan_model.specs.declared.circuit.Driver.{Driver}
use Rattle.scan_model.specs.declared.circuit.Driver.TheVariants.{Input, Flop, Gate}
use Rattle.scan_model.specs.declared.circuit.PinPlace.{PinPlace}
use Rattle.scan_model.specs.declared.circuit.PinPlace.TheVariants as place
use Rattle.scan_model.specs.declared.parts.Point.{Point}
use Rattle.scan_model.specs.declared.parts.Point.TheVariants.{Output, Cell}
use Rattle.scan_model.specs.declared.fault.Fault.{Fault}
use Rattle.scan_model.specs.declared.fault.Fault.TheVariants as fault
use Rattle.scan_model.specs.Values.{are_opposite, tri_not}
use Rattle.scan_model.specs.Netlist.{Netlist, pin_at, driver_of, is_gate, operands}
use Rattle.scan_model.specs.ScanTest.{ScanTest, chain_at, point_at}
use Rattle.scan_model.specs.Faults.{stuck_value, bridged, takes, forced_net, forced_pin}
use Rattle.scan_model.specs.NetValue.{Forced, driven, values_of, source_of, good_value, seen, nothing_forced}
use Rattle.scan_model.specs.Response.{output_pin, data_pin}
use Rattle.scan_model.specs.Suspect.{observed_net, is_output, is_cell}
use Rattle.scan_model.specs.Force.{force}

-- the pin that a point sees
abbrev pub point_pin : ScanTest → Point → ℕ
point_pin t (Output k) = output_pin t.netlist k
point_pin t (Cell h i) = data_pin t.netlist (slice_index (chain_at t h).cells i)

-- the values of a circuit under a source, with net n flipped; where it is X nothing changes
abbrev pub flipped_from : Netlist → (ℕ → Tri) → ℕ → ℕ → Tri
flipped_from c s n = values_of c s (force n (tri_not (values_of c s nothing_forced n)))

-- a flip of net n shows at net o
abbrev pub flip_shows_from : Netlist → (ℕ → Tri) → ℕ → ℕ → Bool
flip_shows_from c s n o = are_opposite (values_of c s nothing_forced o) (flipped_from c s n o)

-- the value of net o in pattern w with net n flipped
abbrev pub flipped : ScanTest → ℕ → ℕ → ℕ → Tri
flipped t w = flipped_from t.netlist (source_of t None w)

abbrev pub flip_shows_at : ScanTest → ℕ → ℕ → Point → Bool
flip_shows_at t w n point = flip_shows_from t.netlist (source_of t None w) n (observed_net t point)

abbrev pub flip_shows : ScanTest → ℕ → ℕ → ℕ → Bool
flip_shows t w n k = flip_shows_at t w n (point_at t k)

abbrev pub is_operand_of : ℕ → PinPlace → Bool
is_operand_of n (place.Operand m i) = n == m
is_operand_of n (place.Output k) = false

-- what a fault forces on nets and pins, over values of nets
abbrev pub forced_over : (ℕ → Tri) → Fault → Forced
forced_over value f = record { net = λ n. forced_net value (Some f) n; pin = λ p. forced_pin (Some f) p }

-- what drives net n where pin p sees the fault's value and all nets are fault-free
abbrev pub forced_output_from : Netlist → (ℕ → Tri) → Fault → ℕ → Tri
forced_output_from c s f n = driven c s (forced_over (values_of c s nothing_forced) f) (driver_of c n) (values_of c s nothing_forced) n

abbrev pub forced_output : ScanTest → ℕ → Fault → ℕ → Tri
forced_output t w = forced_output_from t.netlist (source_of t None w)

-- over the values of a circuit under a source the fault flips net n
abbrev pub mask_from : Netlist → (ℕ → Tri) → Fault → ℕ → Bool
mask_from c s (fault.Stem m v) n = (n == m) && are_opposite (values_of c s nothing_forced m) (stuck_value v)
mask_from c s (fault.Branch p v) n = is_operand_of n (pin_at c p).place && are_opposite (values_of c s nothing_forced n) (forced_output_from c s (fault.Branch p v) n)
mask_from c s (fault.Bridge a b kind) n = takes kind (n == a) (n == b) && are_opposite (values_of c s nothing_forced n) (bridged kind (values_of c s nothing_forced a) (values_of c s nothing_forced b))
mask_from c s (fault.Cell h i kind) n = false

-- in pattern w the fault flips net n
abbrev pub mask : ScanTest → Fault → ℕ → ℕ → Bool
mask t f w n = mask_from t.netlist (source_of t None w) f n

-- the pin at this place is the one that the point sees
abbrev pub operand_is_point : ScanTest → Driver → ℕ → Point → Bool
operand_is_point t Input n point = false
operand_is_point t Flop n point = is_cell t n point
operand_is_point t (Gate kind) n point = false

abbrev pub place_is_point : ScanTest → PinPlace → Point → Bool
place_is_point t (place.Operand n i) point = operand_is_point t (driver_of t.netlist n) n point
place_is_point t (place.Output k) point = is_output k point

-- a pin that goes straight to a point
abbrev pub straight_at : ScanTest → Fault → ℕ → Point → Bool
straight_at t (fault.Stem m v) w point = false
straight_at t (fault.Branch p v) w point = place_is_point t (pin_at t.netlist p).place point && are_opposite (good_value t w (pin_at t.netlist p).net) (stuck_value v)
straight_at t (fault.Bridge a b kind) w point = false
straight_at t (fault.Cell h c kind) w point = false

abbrev pub straight : ScanTest → Fault → ℕ → ℕ → Bool
straight t f w k = straight_at t f w (point_at t k)

-- the nets whose values a fault may change at their source
abbrev pub place_nets : ScanTest → PinPlace → List ℕ
place_nets t (place.Operand n i) = cond (is_gate t.netlist n) (n ∷ []) []
place_nets t (place.Output k) = []

abbrev pub touched_nets : ScanTest → Fault → List ℕ
touched_nets t (fault.Stem m v) = m ∷ []
touched_nets t (fault.Branch p v) = place_nets t (pin_at t.netlist p).place
touched_nets t (fault.Bridge a b kind) = a ∷ b ∷ []
touched_nets t (fault.Cell h c kind) = drop (c + 1) (chain_at t h).cells

-- a fault of the logic
abbrev pub IsLogic : Fault → Type 0
IsLogic (fault.Stem m v) = Unit {0}
IsLogic (fault.Branch p v) = Unit {0}
IsLogic (fault.Bridge a b kind) = Unit {0}
IsLogic (fault.Cell h c kind) = ⊥

-- the fault-free values of a gate's operands
abbrev pub operand_values_from : Netlist → (ℕ → Tri) → ℕ → List Tri
operand_values_from c s n = map (seen c nothing_forced (values_of c s nothing_forced)) (operands c n)

abbrev pub operand_values : ScanTest → ℕ → ℕ → List Tri
operand_values t w = operand_values_from t.netlist (source_of t None w)
