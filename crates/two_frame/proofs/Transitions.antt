-- A slow fault fails only where its site makes the transition.
use Rattle.std.proofs.Common.{◌≡◌, ℕ, ◌<◌, Bool, true, false, List, length, Option, Some, None, refl, sym, ap, ◌∙◌}
use Rattle.std.proofs.lemmas.Bool.{and_parts}
use Rattle.std.proofs.lemmas.List.{get_or-map}
use Rattle.scan_model.specs.declared.values.Tri.{Tri}
use Rattle.scan_model.specs.declared.values.Tri.TheVariants.{Unknown}
use Rattle.scan_model.specs.declared.circuit.Driver.{Driver}
use Rattle.scan_model.specs.declared.circuit.Driver.TheVariants.{Input, Flop, Gate}
use Rattle.scan_model.specs.declared.circuit.GateKind.{GateKind}
use Rattle.scan_model.specs.declared.circuit.PinPlace.{PinPlace}
use Rattle.scan_model.specs.declared.circuit.PinPlace.TheVariants as place
use Rattle.scan_model.specs.declared.fault.Stuck.{Stuck}
use Rattle.scan_model.specs.declared.fault.BridgeKind.{BridgeKind}
use Rattle.scan_model.specs.declared.fault.CellKind.{CellKind}
use Rattle.scan_model.specs.declared.fault.Fault.{Fault}
use Rattle.scan_model.specs.declared.fault.Fault.TheVariants as fault
use Rattle.scan_model.specs.declared.parts.Point.{Point}
use Rattle.scan_model.specs.declared.parts.Point.TheVariants.{Output}
use Rattle.scan_model.specs.Netlist.{IsNetlist, is_gate_driver, driver_of, pin_at}
use Rattle.scan_model.specs.Walks.{IsEvaluationOrder}
use Rattle.scan_model.specs.ScanTest.{ScanTest, IsScanTest, IsPoint, HasSite, points_of, point_at}
use Rattle.scan_model.specs.NetValue.{driven, values_of, nothing_forced, good_value}
use Rattle.scan_model.specs.Coverage.{bit_of}
use Rattle.scan_model.specs.Masks.{point_pin}
use Rattle.scan_model.proofs.counting.Valuations.{valuation_is}
use Rattle.scan_model.proofs.counting.Shown.{not_opposite_itself, point_at-IsPoint, point_pin-in_range}
use Rattle.frame_rows.specs.Frames.{changes, second_source, second_driven, second_value, net_changes}
use Rattle.frame_rows.proofs.SecondValues.{meets, none_is}
use Rattle.two_frame.specs.TwoFrame.{frame_observed, frame_fails_at, frame_value, frame_fails, makes_transition}
use Rattle.two_frame.proofs.SlowStems.{slow_stem_law}
use Rattle.two_frame.proofs.SlowOperands.{slow_operand_law}
use Rattle.two_frame.proofs.SlowPins.{straight_law}

-- the gate, or the flop, that a place belongs to
abbrev owner : PinPlace → ℕ
owner (place.Operand n i) = n
owner (place.Output k) = 0

abbrev is_operand : PinPlace → Bool
is_operand (place.Operand n i) = true
is_operand (place.Output k) = false

-- the value of a bit is that of its point
pub frame_value-is : (t : ScanTest) (f : Option Fault) (w k : ℕ) → k < length (points_of t) → frame_value t f (bit_of w k) ≡ frame_observed t f w (point_at t k)
frame_value-is t f w k lt = get_or-map (frame_observed t f w) (points_of t) k (Output 0) Unknown lt

pub frame_fails-is : (t : ScanTest) (f : Fault) (w k : ℕ) → k < length (points_of t) → frame_fails t f (bit_of w k) ≡ frame_fails_at t f w (point_at t k)
frame_fails-is t f w k lt = rw (frame_value-is t None w k lt, frame_value-is t (Some f) w k lt) refl

module _ (t : ScanTest) (sound : IsScanTest t) (order : List ℕ) (ordered : IsEvaluationOrder t.netlist order) (w : ℕ) where
  net_sound : IsNetlist t.netlist
  net_sound = sound.circuit.netlist

  abbrev good2 : ℕ → Tri
  good2 = values_of t.netlist (second_source t w) nothing_forced

  -- ---- faults that aren't slow leave all as it is

  bridge_driven : (a b : ℕ) (kind : BridgeKind) (n : ℕ) (f : ℕ → Tri) (d : Driver) → second_driven t (Some (fault.Bridge a b kind)) w d f n ≡ driven t.netlist (second_source t w) nothing_forced d f n
  bridge_driven a b kind n f Input = refl
  bridge_driven a b kind n f Flop = refl
  bridge_driven a b kind n f (Gate k) = refl

  bridge_is : (a b : ℕ) (kind : BridgeKind) (n : ℕ) → n < length t.netlist.nets → second_value t (Some (fault.Bridge a b kind)) w n ≡ good2 n
  bridge_is a b kind n lt =
      let V = second_value t (Some (fault.Bridge a b kind)) w in
      valuation_is t.netlist order net_sound ordered (second_source t w) nothing_forced V
      (λ k in'. meets t sound order ordered w (Some (fault.Bridge a b kind)) k in' ∙ bridge_driven a b kind k V (driver_of t.netlist k)) n lt

  cell_driven : (h c : ℕ) (kind : CellKind) (n : ℕ) (f : ℕ → Tri) (d : Driver) → second_driven t (Some (fault.Cell h c kind)) w d f n ≡ driven t.netlist (second_source t w) nothing_forced d f n
  cell_driven h c kind n f Input = refl
  cell_driven h c kind n f Flop = refl
  cell_driven h c kind n f (Gate k) = refl

  cell_is : (h c : ℕ) (kind : CellKind) (n : ℕ) → n < length t.netlist.nets → second_value t (Some (fault.Cell h c kind)) w n ≡ good2 n
  cell_is h c kind n lt =
      let V = second_value t (Some (fault.Cell h c kind)) w in
      valuation_is t.netlist order net_sound ordered (second_source t w) nothing_forced V
      (λ k in'. meets t sound order ordered w (Some (fault.Cell h c kind)) k in' ∙ cell_driven h c kind k V (driver_of t.netlist k)) n lt

  -- ---- slow faults

  -- the second frame's value is that of the circuit
  changed : (v : Stuck) (n : ℕ) → n < length t.netlist.nets → changes v (good_value t w n) (good2 n) ≡ true → net_changes t v w n ≡ true
  changed v n lt made = rw (none_is t sound order ordered w n lt) made

  branch_made : (q : ℕ) (v : Stuck) → q < length t.netlist.pins → (p : Point) → IsPoint t p → frame_fails_at t (fault.Branch q v) w p ≡ true
      → changes v (good_value t w (pin_at t.netlist q).net) (good2 (pin_at t.netlist q).net) ≡ true
  branch_made q v q_lt p is_point fails = go (pin_at t.netlist q).place refl
    where
      straight : ((n i : ℕ) (kind : GateKind) → driver_of t.netlist n ≡ Gate kind → (pin_at t.netlist q).place ≡ place.Operand n i → ⊥)
          → changes v (good_value t w (pin_at t.netlist q).net) (good2 (pin_at t.netlist q).net) ≡ true
      straight no_gate = (and_parts _ _ (sym (straight_law t sound order ordered w q v q_lt no_gate p is_point) ∙ fails)).0

      read_by : (g i : ℕ) → (pin_at t.netlist q).place ≡ place.Operand g i → (d : Driver) → driver_of t.netlist g ≡ d
          → changes v (good_value t w (pin_at t.netlist q).net) (good2 (pin_at t.netlist q).net) ≡ true
      read_by g i at (Gate kind) drives = (and_parts _ _ (sym (slow_operand_law t sound order ordered w q g i kind v q_lt at drives p is_point) ∙ fails)).0
      read_by g i at Input drives = straight (λ n j kind gate there.
          let same : g ≡ n = ap owner (sym at ∙ there) in
          let apart : false ≡ true = ap is_gate_driver (sym drives ∙ ap (driver_of t.netlist) same ∙ gate) in cc)
      read_by g i at Flop drives = straight (λ n j kind gate there.
          let same : g ≡ n = ap owner (sym at ∙ there) in
          let apart : false ≡ true = ap is_gate_driver (sym drives ∙ ap (driver_of t.netlist) same ∙ gate) in cc)

      go : (x : PinPlace) → (pin_at t.netlist q).place ≡ x → changes v (good_value t w (pin_at t.netlist q).net) (good2 (pin_at t.netlist q).net) ≡ true
      go (place.Operand g i) at = read_by g i at (driver_of t.netlist g) refl
      go (place.Output k) at = straight (λ n j kind gate there. let apart : false ≡ true = ap is_operand (sym at ∙ there) in cc)

  pub only_transitions : (f : Fault) → HasSite t f → (p : Point) → IsPoint t p → frame_fails_at t f w p ≡ true → makes_transition t f w ≡ true
  only_transitions (fault.Stem n v) lt p is_point fails = changed v n lt (and_parts _ _ (sym (slow_stem_law t sound order ordered w n v lt p is_point) ∙ fails)).0
  only_transitions (fault.Branch q v) lt p is_point fails = changed v (pin_at t.netlist q).net (net_sound.pin_nets q lt) (branch_made q v lt p is_point fails)
  only_transitions (fault.Bridge a b kind) lt p is_point fails =
      let net = (pin_at t.netlist (point_pin t p)).net in
      let in' = net_sound.pin_nets (point_pin t p) (point_pin-in_range t sound p is_point) in
      let none : frame_fails_at t (fault.Bridge a b kind) w p ≡ false = rw (none_is t sound order ordered w net in', bridge_is a b kind net in') (not_opposite_itself (good2 net)) in
      absurd (let apart : true ≡ false = sym fails ∙ none in cc)
  only_transitions (fault.Cell h c kind) lt p is_point fails =
      let net = (pin_at t.netlist (point_pin t p)).net in
      let in' = net_sound.pin_nets (point_pin t p) (point_pin-in_range t sound p is_point) in
      let none : frame_fails_at t (fault.Cell h c kind) w p ≡ false = rw (none_is t sound order ordered w net in', cell_is h c kind net in') (not_opposite_itself (good2 net)) in
      absurd (let apart : true ≡ false = sym fails ∙ none in cc)

  pub only_transitions_in : (f : Fault) → HasSite t f → (k : ℕ) → k < length (points_of t) → frame_fails t f (bit_of w k) ≡ true → makes_transition t f w ≡ true
  only_transitions_in f site k lt fails = only_transitions f site (point_at t k) (point_at-IsPoint t sound k lt) (sym (frame_fails-is t f w k lt) ∙ fails)
