-- The values of the operands of a gate in a lane.
use Rattle.std.specs.Prelude.{◌≡◌, ℕ, ◌<◌, List, length, map, Bool, count_by, ◌==◌, ◌&&◌, ◌||◌}
use Rattle.scan_model.specs.declared.values.Tri.{Tri}
use Rattle.scan_model.specs.declared.circuit.GateKind.{GateKind}
use Rattle.scan_model.specs.declared.circuit.Driver.TheVariants.{Gate}
use Rattle.scan_model.specs.declared.circuit.PinPlace.TheVariants.{Operand}
use Rattle.scan_model.specs.Netlist.{Netlist, reads, driver_of, pin_at}
use Rattle.scan_model.specs.BranchMask.{in_the_way}
use Rattle.lane_rows.specs.Planes.{Planes}
use Rattle.lane_rows.specs.Sources.{lane_values}

abbrev pub read_values : Netlist → List Planes → ℕ → ℕ → List Tri
read_values c values gate j = map (lane_values values j) (reads c gate)

-- no operand hides a change of the one that has this value
abbrev pub senses_of : GateKind → List Tri → Tri → Bool
senses_of kind xs x = (count_by (in_the_way kind) xs == 0) || ((count_by (in_the_way kind) xs == 1) && in_the_way kind x)

-- the pin is an operand of a gate of that kind
pub record IsGateOfPin (c : Netlist) (pin gate : ℕ) (kind : GateKind) : Type 0 where
  pub index : ℕ
  pub in_range : gate < length c.nets
  pub placed : (pin_at c pin).place ≡ Operand gate index
  pub driven : driver_of c gate ≡ Gate kind
