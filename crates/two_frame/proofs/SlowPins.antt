-- A slow branch that no gate reads fails at its own point alone, where its net makes the transition.
use Rattle.std.proofs.Common.{◌≡◌, ◌≢◌, ℕ, zero, suc, ◌+◌, ◌<◌, ◌&&◌, List, length, map, Option, Some, refl, sym, ap, ◌∙◌, inl, inr, arith}
use Rattle.std.specs.List.{range_with_len}
use Rattle.std.proofs.Math.Bool.{and-true, and-false}
use Rattle.std.proofs.lemmas.Bool.{cases_eq, eq-eqb, ne_eqb}
use Rattle.scan_model.specs.declared.values.Tri.{Tri}
use Rattle.scan_model.specs.declared.circuit.Driver.{Driver}
use Rattle.scan_model.specs.declared.circuit.Driver.TheVariants.{Input, Flop, Gate}
use Rattle.scan_model.specs.declared.circuit.GateKind.{GateKind}
use Rattle.scan_model.specs.declared.circuit.PinPlace.TheVariants as place
use Rattle.scan_model.specs.declared.fault.Stuck.{Stuck}
use Rattle.scan_model.specs.declared.fault.Fault.{Fault}
use Rattle.scan_model.specs.declared.fault.Fault.TheVariants as fault
use Rattle.scan_model.specs.declared.parts.Point.{Point}
use Rattle.scan_model.specs.Values.{gate_value}
use Rattle.scan_model.specs.Netlist.{IsNetlist, driver_of, net_at, pin_at}
use Rattle.scan_model.specs.Walks.{IsEvaluationOrder}
use Rattle.scan_model.specs.ScanTest.{ScanTest, IsScanTest, IsPoint}
use Rattle.scan_model.specs.NetValue.{seen, driven, values_of, nothing_forced, good_value}
use Rattle.scan_model.specs.Masks.{point_pin, place_is_point}
use Rattle.scan_model.proofs.counting.Valuations.{valuation_is}
use Rattle.scan_model.proofs.counting.Shown.{not_opposite_itself, point_pin-in_range, place_is_point-is}
use Rattle.frame_rows.specs.Frames.{changes, second_source, frame_seen, second_driven, second_value}
use Rattle.frame_rows.proofs.SecondValues.{meets, none_is}
use Rattle.two_frame.specs.TwoFrame.{frame_fails_at}
use Rattle.two_frame.proofs.SlowStems.{slowed_flips}

module _ (t : ScanTest) (sound : IsScanTest t) (order : List ℕ) (ordered : IsEvaluationOrder t.netlist order) (w q : ℕ) (v : Stuck) (q_lt : q < length t.netlist.pins)
    (no_gate : (n i : ℕ) (kind : GateKind) → driver_of t.netlist n ≡ Gate kind → (pin_at t.netlist q).place ≡ place.Operand n i → ⊥) where
  net_sound : IsNetlist t.netlist
  net_sound = sound.circuit.netlist

  abbrev good2 : ℕ → Tri
  good2 = values_of t.netlist (second_source t w) nothing_forced

  abbrev F : Option Fault
  F = Some (fault.Branch q v)

  abbrev V : ℕ → Tri
  V = second_value t F w

  unslowed : (f : ℕ → Tri) (first count : ℕ) → ((j : ℕ) → j < count → (first + j) ≢ q) → map (frame_seen t F w f) (range_with_len first count) ≡ map (seen t.netlist nothing_forced f) (range_with_len first count)
  unslowed f first zero apart = refl
  unslowed f first (suc count) apart =
      let here : first ≢ q = λ same. apart 0 (omega arith) (omega (arith, same)) in
      let rest = unslowed f (first + 1) count (λ j lt same. apart (suc j) (omega arith) (omega (arith, same))) in
      rw (ne_eqb first q here, rest) refl

  -- what drives a net is as ever
  same_driven : (n : ℕ) → n < length t.netlist.nets → (f : ℕ → Tri) (d : Driver) → driver_of t.netlist n ≡ d → second_driven t F w d f n ≡ driven t.netlist (second_source t w) nothing_forced d f n
  same_driven n lt f Input is = refl
  same_driven n lt f Flop is = refl
  same_driven n lt f (Gate kind) is = ap (gate_value kind) (unslowed f (net_at t.netlist n).first_pin (net_at t.netlist n).pin_count
      (λ j below same. no_gate n j kind is (ap (λ (k : ℕ). (pin_at t.netlist k).place) (sym same) ∙ net_sound.operand_places n j lt below)))

  stays : (n : ℕ) → n < length t.netlist.nets → V n ≡ good2 n
  stays n lt = valuation_is t.netlist order net_sound ordered (second_source t w) nothing_forced V
      (λ k in'. meets t sound order ordered w F k in' ∙ same_driven k in' V (driver_of t.netlist k) refl) n lt

  pub straight_law : (p : Point) → IsPoint t p → frame_fails_at t (fault.Branch q v) w p
      ≡ (changes v (good_value t w (pin_at t.netlist q).net) (good2 (pin_at t.netlist q).net) && place_is_point t (pin_at t.netlist q).place p)
  straight_law p is_point =
      let pin = point_pin t p in
      let net = (pin_at t.netlist pin).net in
      let lt = net_sound.pin_nets pin (point_pin-in_range t sound p is_point) in
      let expected = none_is t sound order ordered w net lt in
      let m = (pin_at t.netlist q).net in
      elim (cases_eq pin q) [
        | inl same ↦
            rw (place_is_point-is t sound q p q_lt is_point, eq-eqb pin q same, expected, stays net lt)
            (slowed_flips v (good_value t w net) (good2 net) ∙ ap (λ (k : ℕ). changes v (good_value t w (pin_at t.netlist k).net) (good2 (pin_at t.netlist k).net)) same
            ∙ sym (and-true (changes v (good_value t w m) (good2 m))))
        | inr other ↦
            rw (place_is_point-is t sound q p q_lt is_point, ne_eqb pin q other, expected, stays net lt)
            (not_opposite_itself (good2 net) ∙ sym (and-false (changes v (good_value t w m) (good2 m))))
      ]
