-- A net that one gate reads through one pin shows where the gate does, in the patterns in which it flips the gate.
use Rattle.std.proofs.Common.{◌≡◌, ℕ, ◌<◌, Bool, true, false, ◌&&◌, ◌||◌, List, length, None, refl, sym, ap, ◌∙◌}
use Rattle.std.proofs.lemmas.Bool.{eq-eqb}
use Rattle.scan_model.specs.declared.values.Tri.{Tri}
use Rattle.scan_model.specs.declared.values.Tri.TheVariants.{Zero, One, Unknown}
use Rattle.scan_model.specs.declared.parts.Point.{Point}
use Rattle.scan_model.specs.declared.fault.Stuck.{Stuck}
use Rattle.scan_model.specs.declared.fault.Stuck.TheVariants as stuck
use Rattle.scan_model.specs.declared.fault.Fault.TheVariants as fault
use Rattle.scan_model.specs.Values.{are_opposite, tri_not}
use Rattle.scan_model.specs.Faults.{stuck_value}
use Rattle.scan_model.specs.Netlist.{Netlist}
use Rattle.scan_model.specs.Walks.{IsEvaluationOrder}
use Rattle.scan_model.specs.ScanTest.{ScanTest, IsScanTest, IsPoint}
use Rattle.scan_model.specs.NetValue.{source_of, values_of, nothing_forced}
use Rattle.scan_model.specs.Suspect.{observed_net}
use Rattle.scan_model.specs.Force.{force}
use Rattle.scan_model.specs.BranchMask.{senses}
use Rattle.scan_model.specs.Masks.{mask_from, is_operand_of, forced_output_from, flipped_from, flip_shows_from, flip_shows_at, operand_values_from}
use Rattle.scan_model.proofs.counting.BranchPins.{branch_flips_from}
use Rattle.scan_model.proofs.counting.Regions.{unseen, single_pin_shows_from}
use Rattle.scan_model.proofs.counting.Shown.{not_opposite_itself, observed_net-in_range}
use Rattle.scan_model.proofs.counting.Valuations.{own_force}
use Rattle.fault_effects.specs.FaultModel.{pin_flips}
use Rattle.fault_effects.specs.PinFlips.{pin_flips_from}
use Rattle.fault_effects.specs.declared.readers.SoleReader.{SoleReader}
use Rattle.fault_effects.specs.Readers.{IsSoleReader}

module _ (t : ScanTest) (sound : IsScanTest t) (order : List ℕ) (ordered : IsEvaluationOrder t.netlist order) (s : ℕ → Tri) (n : ℕ) (r : SoleReader) (sole : IsSoleReader t n r) where
  abbrev c : Netlist
  c = t.netlist

  abbrev pub p : ℕ
  p = r.pin

  abbrev pub g : ℕ
  g = r.gate

  abbrev pub good : ℕ → Tri
  good = values_of t.netlist s nothing_forced

  -- whether the gate takes the value of a flip of the pin
  abbrev pub sensed : Bool
  sensed = senses sole.operand.kind (operand_values_from t.netlist s g) sole.operand.index

  branch_mask_is : (v : Stuck) → mask_from c s (fault.Branch p v) g ≡ (are_opposite (good n) (stuck_value v) && sensed)
  branch_mask_is v =
      ap (λ (b : Bool). b && are_opposite (good g) (forced_output_from c s (fault.Branch p v) g)) (ap (is_operand_of g) sole.operand.at ∙ eq-eqb g g refl)
      ∙ branch_flips_from c order sound.circuit.netlist ordered s p g sole.operand.index v sole.operand.kind sole.only.there sole.operand.at sole.operand.drives
      ∙ ap (λ (m : ℕ). are_opposite (good m) (stuck_value v) && sensed) sole.only.net

  -- a net that is X shows nothing
  unknown_hides : (o : ℕ) → o < length c.nets → good n ≡ Unknown → flip_shows_from c s n o ≡ false
  unknown_hides o lt is =
      let same : flipped_from c s n o ≡ good o = ap (λ (x : Tri). values_of c s (force n (tri_not x)) o) is ∙ ap (λ (x : Tri). values_of c s (force n x) o) (sym is)
      ∙ sym (own_force c order sound.circuit.netlist ordered s n o lt) in
      ap (are_opposite (good o)) same ∙ not_opposite_itself (good o)

  -- by the net's value
  pub pin_flips-is : (x : Tri) → good n ≡ x → pin_flips_from t.netlist s p g ≡ ((are_opposite x Zero && sensed) || (are_opposite x One && sensed))
  pin_flips-is x is = rw (branch_mask_is stuck.Zero, branch_mask_is stuck.One, is) refl

  -- where the net shows at a point, over the values under the source
  pub sole_from : (point : Point) → IsPoint t point → flip_shows_from t.netlist s n (observed_net t point) ≡ (pin_flips_from t.netlist s p g && flip_shows_from t.netlist s g (observed_net t point))
  sole_from point is_point = go (good n) refl
    where
      o : ℕ
      o = observed_net t point

      o_lt : o < length c.nets
      o_lt = observed_net-in_range t sound point is_point

      by_gate : flip_shows_from c s n o ≡ (sensed && flip_shows_from c s g o)
      by_gate = single_pin_shows_from c order sound.circuit.netlist ordered s p n g sole.operand.index sole.operand.kind sole.only.there sole.only.net sole.operand.at sole.operand.drives sole.only.one o o_lt
          (unseen t sound order ordered 0 p n g sole.operand.index sole.operand.kind sole.only.there sole.only.net sole.operand.at sole.operand.drives sole.only.one point is_point)

      first : (b : Bool) → ((true && b) || (false && b)) ≡ b
      first true = refl
      first false = refl

      go : (x : Tri) → good n ≡ x → flip_shows_from c s n o ≡ (pin_flips_from c s p g && flip_shows_from c s g o)
      go Unknown is = unknown_hides o o_lt is ∙ ap (λ (b : Bool). b && flip_shows_from c s g o) (sym (pin_flips-is Unknown is))
      go Zero is = by_gate ∙ ap (λ (b : Bool). b && flip_shows_from c s g o) (sym (pin_flips-is Zero is))
      go One is = by_gate ∙ ap (λ (b : Bool). b && flip_shows_from c s g o) (sym (pin_flips-is One is ∙ first sensed))

-- where the net shows at a point, in a pattern
pub sole_at : (t : ScanTest) → IsScanTest t → (order : List ℕ) → IsEvaluationOrder t.netlist order → (w n : ℕ) (r : SoleReader) → IsSoleReader t n r → (point : Point) → IsPoint t point → flip_shows_at t w n point ≡ (pin_flips t w r.pin r.gate && flip_shows_at t w r.gate point)
sole_at t sound order ordered w n r sole point is_point = sole_from t sound order ordered (source_of t None w) n r sole point is_point
