-- The lanes in which a stuck operand flips its gate.
use Rattle.std.proofs.Common.{◌≡◌, ℕ, zero, suc, ◌+◌, ◌<◌, ◌≤◌, Bool, true, false, ◌&&◌, ◌||◌, List, length, map, refl, sym, ap, subst, ◌∙◌, arith}
use Rattle.std.specs.List.{range_with_len}
use Rattle.std.proofs.lemmas.Bool.{eq-eqb}
use Rattle.std.proofs.lemmas.List.FromFn.{get_or-map-range_with_len}
use Rattle.scan_model.specs.declared.values.Tri.{Tri}
use Rattle.scan_model.specs.declared.values.Tri.TheVariants.{Unknown}
use Rattle.scan_model.specs.declared.circuit.Driver.TheVariants.{Gate}
use Rattle.scan_model.specs.declared.circuit.GateKind.{GateKind}
use Rattle.scan_model.specs.declared.circuit.PinPlace.{PinPlace}
use Rattle.scan_model.specs.declared.circuit.PinPlace.TheVariants.{Operand}
use Rattle.scan_model.specs.declared.fault.Stuck.{Stuck}
use Rattle.scan_model.specs.declared.fault.Fault.TheVariants as fault
use Rattle.scan_model.specs.Values.{are_opposite}
use Rattle.scan_model.specs.Faults.{stuck_value}
use Rattle.scan_model.specs.Netlist.{IsNetlist, IsPlacedAt, driver_of, net_at, pin_at}
use Rattle.scan_model.specs.ChainShift.{value_at}
use Rattle.scan_model.specs.ScanTest.{ScanTest, IsScanTest}
use Rattle.scan_model.specs.NetValue.{values_of, nothing_forced}
use Rattle.scan_model.specs.BranchMask.{senses}
use Rattle.scan_model.specs.Masks.{mask_from, forced_output_from, operand_values_from, is_operand_of}
use Rattle.scan_model.proofs.counting.BranchPins.{branch_flips_from}
use Rattle.lane_rows.specs.GoodRows.{pattern_of}
use Rattle.lane_rows.specs.Stimuli.{Stimuli, AreRowsOf}
use Rattle.packed_sim.specs.declared.good.PackedGood.{PackedGood}
use Rattle.packed_sim.specs.PackedParts.{IsBuiltFor, block_at, good_at}
use Rattle.packed_sim.specs.OperandValues.{read_values, senses_of}

same_map : (f : ℕ → Tri) (h : ℕ → ℕ) (k : ℕ → Tri) (a n : ℕ) → ((p : ℕ) → a ≤ p → p < a + n → k p ≡ f (h p)) → map k (range_with_len a n) ≡ map f (map h (range_with_len a n))
same_map f h k a zero agree = refl
same_map f h k a (suc n) agree =
    let first = agree a (omega arith) (omega arith) in
    let rest = same_map f h k (a + 1) n (λ p le lt. agree p (omega arith) (omega arith)) in
    rw (first, rest) refl

pub either_and : (a b c : Bool) → ((a || b) && c) ≡ ((a && c) || (b && c))
either_and true b true = refl
either_and true true false = refl
either_and true false false = refl
either_and false b c = refl

module _ (t : ScanTest) (sound : IsScanTest t) (g : PackedGood) (built : IsBuiltFor t g) (σ : Stimuli) (rows : AreRowsOf t.netlist σ g.rows) (b j : ℕ) (block_lt : b < length g.rows) (lane_lt : j < 512) (captured : σ.captures (pattern_of b j) ≡ true)
    (pin gate i : ℕ) (kind : GateKind) (v : Stuck) (pin_lt : pin < length t.netlist.pins) (gate_lt : gate < length t.netlist.nets)
    (stands : (pin_at t.netlist pin).place ≡ Operand gate i) (driven : driver_of t.netlist gate ≡ Gate kind) where
  net_sound : IsNetlist t.netlist
  net_sound = sound.circuit.netlist

  abbrev s : ℕ → Tri
  s = σ.source (pattern_of b j)

  abbrev value : ℕ → Tri
  value = values_of t.netlist s nothing_forced

  good_is : (n : ℕ) → n < length t.netlist.nets → good_at g b j n ≡ value n
  good_is n n_lt = rows.value b j n block_lt lane_lt n_lt captured

  operands_are : operand_values_from t.netlist s gate ≡ read_values t.netlist (block_at g b).values gate j
  operands_are = same_map (good_at g b j) (λ p. (pin_at t.netlist p).net) (λ p. value (pin_at t.netlist p).net) (net_at t.netlist gate).first_pin (net_at t.netlist gate).pin_count
      (λ p le lt. sym (good_is (pin_at t.netlist p).net (net_sound.pin_nets p (omega (arith, net_sound.operand_range gate gate_lt)))))

  placed : IsPlacedAt t.netlist pin (Operand gate i)
  placed = subst (IsPlacedAt t.netlist pin) stands (net_sound.pin_places pin pin_lt)

  own_value : value_at (operand_values_from t.netlist s gate) i ≡ value (pin_at t.netlist pin).net
  own_value = get_or-map-range_with_len (λ p. value (pin_at t.netlist p).net) (net_at t.netlist gate).first_pin (net_at t.netlist gate).pin_count i pin Unknown placed.1 (sym placed.2)

  pub gate_mask_is : (x : Bool) → x ≡ are_opposite (good_at g b j (pin_at t.netlist pin).net) (stuck_value v)
      → (x && senses_of kind (read_values t.netlist (block_at g b).values gate j) (good_at g b j (pin_at t.netlist pin).net)) ≡ mask_from t.netlist s (fault.Branch pin v) gate
  gate_mask_is x x_is =
      let own = good_at g b j (pin_at t.netlist pin).net in
      let own_good : own ≡ value (pin_at t.netlist pin).net = good_is (pin_at t.netlist pin).net (net_sound.pin_nets pin pin_lt) in
      let xs = operand_values_from t.netlist s gate in
      let y = senses_of kind (read_values t.netlist (block_at g b).values gate j) own in
      let y_senses : y ≡ senses kind xs i = ap (λ (l : List Tri). senses_of kind l own) (sym operands_are) ∙ ap (senses_of kind xs) (own_good ∙ sym own_value) in
      ap (λ (z : Bool). z && y) (x_is ∙ ap (λ (u : Tri). are_opposite u (stuck_value v)) own_good)
      ∙ ap (λ (z : Bool). are_opposite (value (pin_at t.netlist pin).net) (stuck_value v) && z) y_senses
      ∙ sym (branch_flips_from t.netlist g.wiring.order.items net_sound built.wired.wired.ordered s pin gate i v kind pin_lt stands driven)
      ∙ sym (ap (λ (p : PinPlace). is_operand_of gate p && are_opposite (value gate) (forced_output_from t.netlist s (fault.Branch pin v) gate)) stands
      ∙ ap (λ (z : Bool). z && are_opposite (value gate) (forced_output_from t.netlist s (fault.Branch pin v) gate)) (eq-eqb gate gate refl))
