-- Transition faults do in the second frame as the engine asks.
use Rattle.std.proofs.Common.{◌≡◌, ℕ, ◌<◌, Bool, true, false, cond, ltb, ◌&&◌, ◌||◌, List, [], ◌∷◌, ◌++◌, length, refl, sym, ap, ◌∙◌}
use Rattle.std.specs.Prelude.{Contains}
use Rattle.std.specs.List.{list_any}
use Rattle.std.proofs.Math.Bool.{or-false}
use Rattle.std.proofs.lemmas.Bool.{eq-eqb, ltb-true, and_right, and_parts}
use Rattle.std.proofs.lemmas.List.Elements.{Contains-append_left}
use Rattle.scan_model.specs.declared.values.Tri.{Tri}
use Rattle.scan_model.specs.declared.values.Tri.TheVariants.{Zero, One, Unknown}
use Rattle.scan_model.specs.declared.circuit.Driver.{Driver}
use Rattle.scan_model.specs.declared.circuit.Driver.TheVariants.{Input, Flop, Gate}
use Rattle.scan_model.specs.declared.circuit.PinPlace.{PinPlace}
use Rattle.scan_model.specs.declared.circuit.PinPlace.TheVariants as place
use Rattle.scan_model.specs.declared.fault.Stuck.{Stuck}
use Rattle.scan_model.specs.declared.fault.Stuck.TheVariants as stuck
use Rattle.scan_model.specs.declared.fault.Fault.{Fault}
use Rattle.scan_model.specs.declared.fault.Fault.TheVariants as fault
use Rattle.scan_model.specs.Values.{are_opposite}
use Rattle.scan_model.specs.Netlist.{pin_at, is_gate, is_gate_driver, driver_of}
use Rattle.scan_model.specs.Walks.{IsEvaluationOrder}
use Rattle.scan_model.specs.Faults.{stuck_value}
use Rattle.scan_model.specs.ScanTest.{ScanTest, IsScanTest, HasSite, points_of, point_at}
use Rattle.scan_model.specs.NetValue.{values_of, nothing_forced, good_value}
use Rattle.scan_model.specs.Coverage.{bit_of}
use Rattle.scan_model.specs.Universe.{universe, bridges, cells}
use Rattle.scan_model.specs.Masks.{flip_shows_from, mask_from, operand_is_point, place_is_point, place_nets, touched_nets, IsLogic}
use Rattle.scan_model.proofs.Sites.{site_of}
use Rattle.scan_model.proofs.counting.Shown.{point_at-IsPoint}
use Rattle.packed_sim.specs.PackedParts.{observed_at}
use Rattle.fault_effects.specs.FaultModel.{FaultModel, IsFaultModel}
use Rattle.fault_effects.proofs.SoleReader.{sole_from}
use Rattle.fault_effects.proofs.Owned.{touched_pin, gate_kind}
use Rattle.frame_rows.specs.Frames.{changes, second_source, net_changes}
use Rattle.frame_rows.proofs.SecondValues.{changes_is}
use Rattle.two_frame.specs.TwoFrame.{frame_fails, makes_transition, transitions}
use Rattle.two_frame.specs.FrameRows.{AllCapture}
use Rattle.two_frame.specs.FrameModel.{frame_model, goes_straight}
use Rattle.two_frame.proofs.Captures.{captured}
use Rattle.two_frame.proofs.ShownFails.{stem_fails-is, gate_fails-is, pin_fails-is}
use Rattle.two_frame.proofs.TransitionPlaces.{no_bridge_in, no_cell_in}

-- a site that makes the transition has the opposite of the value at which it would be stuck
changes_opposite : (v : Stuck) (a b : Tri) → (changes v a b && are_opposite b (stuck_value v)) ≡ changes v a b
changes_opposite stuck.Zero Zero Zero = refl
changes_opposite stuck.Zero Zero One = refl
changes_opposite stuck.Zero Zero Unknown = refl
changes_opposite stuck.Zero One b = refl
changes_opposite stuck.Zero Unknown b = refl
changes_opposite stuck.One Zero b = refl
changes_opposite stuck.One One Zero = refl
changes_opposite stuck.One One One = refl
changes_opposite stuck.One One Unknown = refl
changes_opposite stuck.One Unknown b = refl

abbrev reader : PinPlace → ℕ
reader (place.Operand n i) = n
reader (place.Output k) = 0

abbrev is_operand : PinPlace → Bool
is_operand (place.Operand n i) = true
is_operand (place.Output k) = false

-- a pin that touches a net is no point's
touched_hides : (t : ScanTest) (f : Fault) (n k : ℕ) → IsLogic f → Contains (touched_nets t f) n → goes_straight t f k ≡ false
touched_hides t (fault.Stem m v) n k logic touched = refl
touched_hides t (fault.Bridge a b kind) n k logic touched = refl
touched_hides t (fault.Cell h c kind) n k logic touched = absurd logic
touched_hides t (fault.Branch p v) n k logic touched =
    let pin = touched_pin t (pin_at t.netlist p).place n touched in
    let gate = gate_kind t n pin.gate in
    ap (λ (x : PinPlace). place_is_point t x (point_at t k)) pin.at ∙ ap (λ (d : Driver). operand_is_point t d n (point_at t k)) gate.1

-- a stem that makes the transition is flipped
pub stem_flips : (t : ScanTest) → IsScanTest t → (order : List ℕ) → IsEvaluationOrder t.netlist order → (w n : ℕ) (v : Stuck) → n < length t.netlist.nets
    → net_changes t v w n ≡ (net_changes t v w n && mask_from t.netlist (second_source t w) (fault.Stem n v) n)
stem_flips t sound order ordered w n v n_lt =
    let makes = net_changes t v w n in
    let good = values_of t.netlist (second_source t w) nothing_forced n in
    sym (ap (λ (b : Bool). makes && (b && are_opposite good (stuck_value v))) (eq-eqb n n refl)
    ∙ ap (λ (b : Bool). b && are_opposite good (stuck_value v)) (sym (changes_is t sound order ordered w v n n_lt))
    ∙ changes_opposite v (good_value t w n) good
    ∙ changes_is t sound order ordered w v n n_lt)

-- where flips tell that a fault fails
abbrev predicted_at : ScanTest → ℕ → ℕ → Fault → Bool
predicted_at t w k f = list_any (λ n. (frame_model t).flips f w n && (frame_model t).shows w n k) (touched_nets t f) || (frame_model t).straight f w k

in_universe : (t : ScanTest) (f : Fault) → Contains (transitions t) f → Contains (universe t) f
in_universe t f there = Contains-append_left (transitions t ++ bridges t) (cells t) f (Contains-append_left (transitions t) (bridges t) f there)

module _ (t : ScanTest) (sound : IsScanTest t) (order : List ℕ) (ordered : IsEvaluationOrder t.netlist order) (w k : ℕ) (lt : k < length (points_of t)) where
  abbrev m : FaultModel
  m = frame_model t

  abbrev predicted : Fault → Bool
  predicted f = predicted_at t w k f

  stem : (n : ℕ) (v : Stuck) → n < length t.netlist.nets → frame_fails t (fault.Stem n v) (bit_of w k) ≡ predicted (fault.Stem n v)
  stem n v n_lt =
      let makes = net_changes t v w n in
      let flips = makes && mask_from t.netlist (second_source t w) (fault.Stem n v) n in
      let shows = flip_shows_from t.netlist (second_source t w) n (observed_at t k) in
      stem_fails-is t sound order ordered w n v k n_lt lt
      ∙ ap (λ (b : Bool). b && shows) (stem_flips t sound order ordered w n v n_lt)
      ∙ sym (rw (and_right makes false refl) (or-false ((flips && shows) || false) ∙ or-false (flips && shows)))

  straight : (q : ℕ) (v : Stuck) → q < length t.netlist.pins → ((n i : ℕ) → (pin_at t.netlist q).place ≡ place.Operand n i → is_gate t.netlist n ≡ false) → place_nets t (pin_at t.netlist q).place ≡ []
      → frame_fails t (fault.Branch q v) (bit_of w k) ≡ predicted (fault.Branch q v)
  straight q v q_lt no_gate none =
      pin_fails-is t sound order ordered w q v k q_lt no_gate lt
      ∙ ap (λ (ns : List ℕ). list_any (λ n. m.flips (fault.Branch q v) w n && m.shows w n k) ns || m.straight (fault.Branch q v) w k) (sym none)

  no_gate_reads : (q g i : ℕ) (v : Stuck) → q < length t.netlist.pins → (pin_at t.netlist q).place ≡ place.Operand g i → is_gate t.netlist g ≡ false → frame_fails t (fault.Branch q v) (bit_of w k) ≡ predicted (fault.Branch q v)
  no_gate_reads q g i v q_lt at no_gate =
      straight q v q_lt (λ n j is. ap (λ (x : PinPlace). is_gate t.netlist (reader x)) (sym is ∙ at) ∙ no_gate)
      (ap (place_nets t) at ∙ ap (λ (b : Bool). cond b (g ∷ []) []) no_gate)

  read_by : (q g i : ℕ) (v : Stuck) → q < length t.netlist.pins → (pin_at t.netlist q).place ≡ place.Operand g i → (d : Driver) → driver_of t.netlist g ≡ d → frame_fails t (fault.Branch q v) (bit_of w k) ≡ predicted (fault.Branch q v)
  read_by q g i v q_lt at Input drives = no_gate_reads q g i v q_lt at (ap is_gate_driver drives)
  read_by q g i v q_lt at Flop drives = no_gate_reads q g i v q_lt at (ap is_gate_driver drives)
  read_by q g i v q_lt at (Gate kind) drives =
      let f = fault.Branch q v in
      let nets : touched_nets t f ≡ g ∷ [] = ap (place_nets t) at ∙ ap (λ (b : Bool). cond b (g ∷ []) []) (ap is_gate_driver drives) in
      let off : m.straight f w k ≡ false = and_right (makes_transition t f w) (goes_straight t f k) (ap (λ (x : PinPlace). place_is_point t x (point_at t k)) at ∙ ap (λ (d : Driver). operand_is_point t d g (point_at t k)) drives) in
      gate_fails-is t sound order ordered w q g i kind v k q_lt at drives lt
      ∙ sym (
      ap (λ (ns : List ℕ). list_any (λ n. m.flips f w n && m.shows w n k) ns || m.straight f w k) nets
      ∙ ap (λ (b : Bool). ((m.flips f w g && m.shows w g k) || false) || b) off
      ∙ or-false ((m.flips f w g && m.shows w g k) || false)
      ∙ or-false (m.flips f w g && m.shows w g k)
      )

  branch : (q : ℕ) (v : Stuck) (x : PinPlace) → q < length t.netlist.pins → (pin_at t.netlist q).place ≡ x → frame_fails t (fault.Branch q v) (bit_of w k) ≡ predicted (fault.Branch q v)
  branch q v (place.Operand g i) q_lt at = read_by q g i v q_lt at (driver_of t.netlist g) refl
  branch q v (place.Output j) q_lt at = straight q v q_lt (λ n i is. absurd (let apart : true ≡ false = ap is_operand (sym is ∙ at) in cc)) (ap (place_nets t) at)

  by_flips : (f : Fault) → Contains (transitions t) f → HasSite t f → frame_fails t f (bit_of w k) ≡ predicted f
  by_flips (fault.Stem n v) there site = stem n v site
  by_flips (fault.Branch q v) there site = branch q v (pin_at t.netlist q).place site refl
  by_flips (fault.Bridge a b kind) there site = absurd (no_bridge_in t a b kind there)
  by_flips (fault.Cell h i kind) there site = absurd (no_cell_in t h i kind there)

pub frame_model-logic : (t : ScanTest) → IsScanTest t → (order : List ℕ) → IsEvaluationOrder t.netlist order → AllCapture t → IsFaultModel t (transitions t) (frame_model t)
frame_model-logic t sound order ordered all = record {
  there = λ w is. (and_parts (ltb w (length t.patterns)) _ is).0;
  logic = λ f there logic w q within is.
      by_flips t sound order ordered w q within f there (site_of t f sound (in_universe t f there))
      ∙ ap (λ (b : Bool). b && predicted_at t w q f) (sym (captured t all w (ltb-true w (length t.patterns) is)));
  apart = λ f n w q logic touched. and_right (makes_transition t f w) (goes_straight t f q) (touched_hides t f n q logic touched);
  one_net = λ a b w kind. refl;
  downstream = λ w n r sole q within is. sole_from t sound order ordered (second_source t w) n r sole (point_at t q) (point_at-IsPoint t sound q within);
}
