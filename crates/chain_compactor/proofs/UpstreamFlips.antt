-- Through a compactor a net that one gate reads through one pin shows where the gate does, if the pin flips the gate.
use Rattle.std.proofs.Common.{◌≡◌, ℕ, ◌<◌, Bool, ◌&&◌, List, length, map, None, ap, ◌∙◌}
use Rattle.std.specs.List.{AllByRecursion}
use Rattle.scan_model.specs.declared.values.Tri.{Tri}
use Rattle.scan_model.specs.declared.circuit.Driver.TheVariants.{Gate}
use Rattle.scan_model.specs.declared.circuit.GateKind.{GateKind}
use Rattle.scan_model.specs.declared.circuit.PinPlace.TheVariants as place
use Rattle.scan_model.specs.declared.parts.Point.{Point}
use Rattle.scan_model.specs.Values.{are_opposite, tri_not, gate_value, xor_of}
use Rattle.scan_model.specs.Netlist.{pin_at, driver_of, operands}
use Rattle.scan_model.specs.Walks.{IsEvaluationOrder}
use Rattle.scan_model.specs.ScanTest.{ScanTest, IsScanTest, IsPoint}
use Rattle.scan_model.specs.NetValue.{seen, values_of, source_of, good_value}
use Rattle.scan_model.specs.Suspect.{observed_net}
use Rattle.scan_model.specs.Force.{force}
use Rattle.scan_model.specs.BranchMask.{senses}
use Rattle.scan_model.specs.Masks.{flipped, operand_values}
use Rattle.scan_model.proofs.counting.Branches.{force_pin}
use Rattle.scan_model.proofs.counting.Regions.{flip_is_gate, gate_flips, sensed_shows, unseen}
use Rattle.scan_model.proofs.counting.Shown.{observed_net-in_range}
use Rattle.chain_compactor.specs.Flips.{flip_differs}
use Rattle.chain_compactor.proofs.Xors.{map_same}
use Rattle.chain_compactor.proofs.OneFlip.{forced_differs, unknown_hides}

module _ (t : ScanTest) (sound : IsScanTest t) (order : List ℕ) (ordered : IsEvaluationOrder t.netlist order) (w : ℕ)
    (p n g i : ℕ) (kind : GateKind) (in_range : p < length t.netlist.pins) (net : (pin_at t.netlist p).net ≡ n) (at : (pin_at t.netlist p).place ≡ place.Operand g i) (drives : driver_of t.netlist g ≡ Gate kind)
    (one : (q : ℕ) → q < length t.netlist.pins → (pin_at t.netlist q).net ≡ n → q ≡ p) where
  abbrev s : ℕ → Tri
  s = source_of t None w

  abbrev good : ℕ → Tri
  good = good_value t w

  -- the gate's output where the operand is flipped
  abbrev output : Tri
  output = gate_value kind (map (seen t.netlist (force_pin p (tri_not (good n))) good) (operands t.netlist g))

  pub flips_behind : (ps : List Point) → AllByRecursion (IsPoint t) ps → flip_differs t w n ps ≡ (senses kind (operand_values t w g) i && flip_differs t w g ps)
  flips_behind ps all =
      ap (λ (vs : List Tri). are_opposite (xor_of (map (λ q. good (observed_net t q)) ps)) (xor_of vs))
      (map_same (IsPoint t) (λ q. flipped t w n (observed_net t q)) (λ q. values_of t.netlist s (force g output) (observed_net t q)) ps all (λ q is_point.
      flip_is_gate t.netlist order sound.circuit.netlist ordered s p n g i kind in_range net at drives one (observed_net t q) (observed_net-in_range t sound q is_point)
      (unseen t sound order ordered w p n g i kind in_range net at drives one q is_point)))
      ∙ forced_differs t sound order ordered w g output ps all
      ∙ ap (λ (b : Bool). b && flip_differs t w g ps) (gate_flips t.netlist order sound.circuit.netlist ordered s p n g i kind in_range net at drives one)
      ∙ sensed_shows t.netlist order sound.circuit.netlist ordered s p n g i kind in_range net at drives one (flip_differs t w g ps) (unknown_hides t sound order ordered w g ps all)
