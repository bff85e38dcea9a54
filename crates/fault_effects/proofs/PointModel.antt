-- Where each point is a place, faults are as the engine asks.
use Rattle.std.proofs.Common.{◌≡◌, ℕ, ◌<◌, Bool, true, false, cond, ltb, ◌&&◌, ◌||◌, List, [], ◌∷◌, length, None, refl, sym, ap, ◌∙◌, arith}
use Rattle.std.specs.Prelude.{All, Contains}
use Rattle.std.specs.List.{list_any}
use Rattle.std.proofs.lemmas.Bool.{eq-eqb, ltb-true, and_parts}
use Rattle.std.proofs.lemmas.List.Elements.{All-weaker}
use Rattle.std.proofs.lemmas.Option.{get_or_from_slice_get, slice_get_within}
use Rattle.scan_model.specs.declared.circuit.Driver.{Driver}
use Rattle.scan_model.specs.declared.circuit.Driver.TheVariants.{Input, Flop, Gate}
use Rattle.scan_model.specs.declared.circuit.PinPlace.{PinPlace}
use Rattle.scan_model.specs.declared.circuit.PinPlace.TheVariants as place
use Rattle.scan_model.specs.declared.parts.PatternKind.{PatternKind}
use Rattle.scan_model.specs.declared.parts.PatternKind.TheVariants.{Capture, Shift}
use Rattle.scan_model.specs.declared.parts.Point.{Point}
use Rattle.scan_model.specs.declared.fault.Fault.{Fault}
use Rattle.scan_model.specs.declared.fault.Fault.TheVariants as fault
use Rattle.scan_model.specs.declared.fault.Stuck.{Stuck}
use Rattle.scan_model.specs.Values.{are_opposite}
use Rattle.scan_model.specs.Netlist.{is_gate_driver, driver_of, pin_at}
use Rattle.scan_model.specs.Walks.{IsEvaluationOrder}
use Rattle.scan_model.specs.Faults.{stuck_value}
use Rattle.scan_model.specs.NetValue.{good_value}
use Rattle.scan_model.specs.ScanTest.{ScanTest, IsScanTest, pattern_at, points_of, point_at}
use Rattle.scan_model.specs.Universe.{universe}
use Rattle.scan_model.specs.Coverage.{bit_of}
use Rattle.scan_model.specs.Response.{observed, predicts_fail}
use Rattle.scan_model.specs.Masks.{mask, flip_shows, straight, straight_at, place_nets, place_is_point, operand_is_point, touched_nets, IsLogic}
use Rattle.scan_model.proofs.counting.Masks.{masks-capture, masks-shift, masks_apart}
use Rattle.scan_model.proofs.counting.Shown.{not_opposite_itself, point_at-IsPoint, predicts_fail-is}
use Rattle.lane_rows.specs.GoodRows.{same_kind}
use Rattle.fault_effects.specs.declared.suspect.Suspect.{Suspect}
use Rattle.fault_effects.specs.Owners.{IsSuspectOf}
use Rattle.fault_effects.specs.FaultModel.{IsFaultModel, IsChainModel, point_model}
use Rattle.fault_effects.proofs.SoleReader.{sole_at}

-- a pin that is no gate's touches no net, and a gate's is no point's
branch_apart : (t : ScanTest) (p : ℕ) (v : Stuck) (n w : ℕ) (point : Point) → Contains (place_nets t (pin_at t.netlist p).place) n → straight_at t (fault.Branch p v) w point ≡ false
branch_apart t p v n w point = by_place (pin_at t.netlist p).place
  where
    sees : Bool
    sees = are_opposite (good_value t w (pin_at t.netlist p).net) (stuck_value v)

    by_driver : (m i : ℕ) (d : Driver) → Contains (cond (is_gate_driver d) (m ∷ []) []) n → (operand_is_point t d m point && sees) ≡ false
    by_driver m i Input touched = absurd (omega (arith, touched.1))
    by_driver m i Flop touched = absurd (omega (arith, touched.1))
    by_driver m i (Gate kind) touched = refl

    by_place : (x : PinPlace) → Contains (place_nets t x) n → (place_is_point t x point && sees) ≡ false
    by_place (place.Output k) touched = absurd (omega (arith, touched.1))
    by_place (place.Operand m i) touched = by_driver m i (driver_of t.netlist m) touched

straight_apart : (t : ScanTest) (f : Fault) (n w q : ℕ) → IsLogic f → Contains (touched_nets t f) n → straight t f w q ≡ false
straight_apart t (fault.Stem m v) n w q logic touched = refl
straight_apart t (fault.Bridge a b kind) n w q logic touched = refl
straight_apart t (fault.Cell h c kind) n w q logic touched = absurd logic
straight_apart t (fault.Branch p v) n w q logic touched = branch_apart t p v n w (point_at t q) touched

pub point_model-logic : (t : ScanTest) → IsScanTest t → (order : List ℕ) → IsEvaluationOrder t.netlist order → IsFaultModel t (universe t) (point_model t)
point_model-logic t sound order ordered = record {
  there = λ w is. (and_parts (ltb w (length t.patterns)) (same_kind Capture (pattern_at t w).kind) is).0;
  logic = λ f there logic w q within is. by_kind f there logic w q within is (pattern_at t w).kind refl;
  apart = straight_apart t;
  one_net = λ a b w kind. masks_apart t w a b kind;
  downstream = λ w n r sole q within captured. sole_at t sound order ordered w n r sole (point_at t q) (point_at-IsPoint t sound q within);
}
  where
    by_kind : (f : Fault) → Contains (universe t) f → IsLogic f → (w q : ℕ) → q < length (points_of t) → ltb w (length t.patterns) ≡ true → (kind : PatternKind) → (pattern_at t w).kind ≡ kind
        → predicts_fail t f (bit_of w q) ≡ ((ltb w (length t.patterns) && same_kind Capture (pattern_at t w).kind) && (list_any (λ n. mask t f w n && flip_shows t w n q) (touched_nets t f) || straight t f w q))
    by_kind f there logic w q within is Shift kind_is = masks-shift t sound order ordered w f q logic within kind_is ∙ sym (rw (is, kind_is) refl)
    by_kind f there logic w q within is Capture kind_is = masks-capture t sound order ordered w f q there logic within kind_is ∙ sym (rw (is, kind_is) refl)

pub point_model-chain : (t : ScanTest) → IsScanTest t → IsChainModel t (point_model t)
point_model-chain t sound = record {
  patterns = λ w is. ltb-true w (length t.patterns) is;
  same = λ f g w q within agree.
      predicts_fail-is t sound f w q within
      ∙ ap (are_opposite (observed t None w (point_at t q))) (agree q within (eq-eqb q q refl))
      ∙ sym (predicts_fail-is t sound g w q within);
  silent = λ f w q within agree.
      predicts_fail-is t sound f w q within
      ∙ ap (are_opposite (observed t None w (point_at t q))) (agree q within (eq-eqb q q refl))
      ∙ not_opposite_itself (observed t None w (point_at t q));
}

in_universe : (t : ScanTest) (s : Suspect) → IsSuspectOf t s → Contains (universe t) s.fault
in_universe t s suspect = (s.place, slice_get_within (universe t) s.place s.fault suspect.at, get_or_from_slice_get (universe t) s.place s.fault s.fault suspect.at)

-- suspects are among all faults
pub all_in_universe : (t : ScanTest) (suspects : List Suspect) → All (IsSuspectOf t) suspects → All (λ s. Contains (universe t) s.fault) suspects
all_in_universe t suspects are = All-weaker (IsSuspectOf t) (λ s. Contains (universe t) s.fault) (in_universe t) suspects are
