-- A pin of a circuit: the mask of a branch without its gate.
use Rattle.std.proofs.Common.{◌≡◌, ℕ, ◌+◌, ◌<◌, ◌&&◌, List, length, map, get_or, set, None, refl, sym, ap, subst, ◌∙◌, inl, inr, arith}
use Rattle.std.specs.List.{range_with_len}
use Rattle.std.proofs.lemmas.Bool.{cases_eq, eq-eqb, ne_eqb}
use Rattle.std.proofs.lemmas.List.{ext_get_or, get_or-set_same, get_or-set_other, length-set}
use Rattle.std.proofs.lemmas.List.FromFn.{length-map-range_with_len, get_or-map-range_with_len}
use Rattle.scan_model.specs.declared.values.Tri.{Tri}
use Rattle.scan_model.specs.declared.values.Tri.TheVariants.{Unknown}
use Rattle.scan_model.specs.declared.circuit.Driver.{Driver}
use Rattle.scan_model.specs.declared.circuit.Driver.TheVariants.{Gate}
use Rattle.scan_model.specs.declared.circuit.GateKind.{GateKind}
use Rattle.scan_model.specs.declared.circuit.PinPlace.TheVariants as place
use Rattle.scan_model.specs.declared.fault.Stuck.{Stuck}
use Rattle.scan_model.specs.declared.fault.Fault.TheVariants as fault
use Rattle.scan_model.specs.Values.{are_opposite, gate_value}
use Rattle.scan_model.specs.Netlist.{Netlist, IsNetlist, IsPlacedAt, IsGateOperandCount, IsOperandCount, driver_of, net_at, pin_at, operands}
use Rattle.scan_model.specs.Walks.{IsEvaluationOrder}
use Rattle.scan_model.specs.ChainShift.{value_at}
use Rattle.scan_model.specs.ScanTest.{ScanTest, IsScanTest}
use Rattle.scan_model.specs.Faults.{stuck_value}
use Rattle.scan_model.specs.NetValue.{Forced, seen, driven, values_of, source_of, nothing_forced, good_value}
use Rattle.scan_model.proofs.NetValues.{values_of-is}
use Rattle.scan_model.specs.BranchMask.{senses}
use Rattle.scan_model.specs.Masks.{forced_output_from, forced_output, operand_values_from, operand_values}
use Rattle.scan_model.proofs.counting.Branches.{force_pin}
use Rattle.scan_model.proofs.counting.BranchMasks.{branch_mask}

module _ (c : Netlist) (order : List ℕ) (sound : IsNetlist c) (ordered : IsEvaluationOrder c order) (s : ℕ → Tri) where
  abbrev good : ℕ → Tri
  good = values_of c s nothing_forced

  module _ (p n i : ℕ) (x : Tri) (kind : GateKind) (in_range : p < length c.pins) (at : (pin_at c p).place ≡ place.Operand n i) (drives : driver_of c n ≡ Gate kind) where
    pub stands : (n < length c.nets) × (i < (net_at c n).pin_count) × (p ≡ (net_at c n).first_pin + i)
    stands = subst (IsPlacedAt c p) at (sound.pin_places p in_range)

    abbrev F : Forced
    F = force_pin p x

    abbrev first : ℕ
    first = (net_at c n).first_pin

    abbrev count : ℕ
    count = (net_at c n).pin_count

    -- the forced pin sets one of the operands
    operand_set : map (seen c F good) (operands c n) ≡ set (operand_values_from c s n) i x
    operand_set = ext_get_or Unknown (map (seen c F good) (operands c n)) (set (operand_values_from c s n) i x)
        (length-map-range_with_len (seen c F good) first count ∙ sym (length-set (operand_values_from c s n) i x ∙ length-map-range_with_len (seen c nothing_forced good) first count))
        (λ k lt. each k (omega (arith, length-map-range_with_len (seen c F good) first count)))
      where
        each : (k : ℕ) → k < count → get_or (map (seen c F good) (range_with_len first count)) k Unknown ≡ get_or (set (operand_values_from c s n) i x) k Unknown
        each k lt = get_or-map-range_with_len (seen c F good) first count k (first + k) Unknown lt refl ∙ elim (cases_eq k i) [
          | inl is ↦ rw (eq-eqb (first + k) p (omega (arith, stands.2)))
              (sym (ap (λ (m : ℕ). get_or (set (operand_values_from c s n) i x) m Unknown) is ∙ get_or-set_same (operand_values_from c s n) i x Unknown (omega (arith, length-map-range_with_len (seen c nothing_forced good) first count, stands.1))))
          | inr other ↦ rw (ne_eqb (first + k) p (λ same. other (omega (arith, stands.2))))
              (sym (get_or-set_other (operand_values_from c s n) i k x Unknown other ∙ get_or-map-range_with_len (seen c nothing_forced good) first count k (first + k) Unknown lt refl))
        ]

    pub first_value : value_at (operand_values_from c s n) i ≡ good (pin_at c p).net
    first_value = get_or-map-range_with_len (seen c nothing_forced good) (net_at c n).first_pin (net_at c n).pin_count i p Unknown stands.1 (sym stands.2)

    pub good_is : good n ≡ gate_value kind (operand_values_from c s n)
    good_is = values_of-is c order s nothing_forced ordered n stands.0 ∙ ap (λ (d : Driver). driven c s nothing_forced d good n) drives

    pub count_fits : IsGateOperandCount kind (length (operand_values_from c s n))
    count_fits = rw (length-map-range_with_len (seen c nothing_forced good) (net_at c n).first_pin (net_at c n).pin_count)
        (subst (λ (d : Driver). IsOperandCount d (net_at c n).pin_count) drives (sound.operand_counts n stands.0))

    -- the gate's output with the pin forced to x is the other value
    pub forced_gate_flips : are_opposite (good n) (gate_value kind (map (seen c F good) (operands c n))) ≡ (are_opposite (good (pin_at c p).net) x && senses kind (operand_values_from c s n) i)
    forced_gate_flips =
        let within : i < length (operand_values_from c s n) = omega (arith, length-map-range_with_len (seen c nothing_forced good) (net_at c n).first_pin (net_at c n).pin_count, stands.1) in
        ap (λ (y : Tri). are_opposite y (gate_value kind (map (seen c F good) (operands c n)))) good_is
        ∙ ap (λ (ys : List Tri). are_opposite (gate_value kind (operand_values_from c s n)) (gate_value kind ys)) operand_set
        ∙ branch_mask kind (operand_values_from c s n) i x count_fits within
        ∙ ap (λ (y : Tri). are_opposite y x && senses kind (operand_values_from c s n) i) first_value

  -- the mask of a branch without its gate
  pub branch_flips_from : (p n i : ℕ) (v : Stuck) (kind : GateKind) → p < length c.pins → (pin_at c p).place ≡ place.Operand n i → driver_of c n ≡ Gate kind
      → are_opposite (good n) (forced_output_from c s (fault.Branch p v) n) ≡ (are_opposite (good (pin_at c p).net) (stuck_value v) && senses kind (operand_values_from c s n) i)
  branch_flips_from p n i v kind in_range at drives =
      ap (are_opposite (good n)) (ap (λ (d : Driver). driven c s (force_pin p (stuck_value v)) d good n) drives) ∙ forced_gate_flips p n i (stuck_value v) kind in_range at drives

-- the mask of a branch without its gate, in a pattern
pub branch_flips : (t : ScanTest) (sound : IsScanTest t) (order : List ℕ) (ordered : IsEvaluationOrder t.netlist order) (w p n i : ℕ) (v : Stuck) (kind : GateKind) → p < length t.netlist.pins → (pin_at t.netlist p).place ≡ place.Operand n i → driver_of t.netlist n ≡ Gate kind
    → are_opposite (good_value t w n) (forced_output t w (fault.Branch p v) n) ≡ (are_opposite (good_value t w (pin_at t.netlist p).net) (stuck_value v) && senses kind (operand_values t w n) i)
branch_flips t sound order ordered w = branch_flips_from t.netlist order sound.circuit.netlist ordered (source_of t None w)
