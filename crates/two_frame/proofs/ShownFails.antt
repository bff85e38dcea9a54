-- The fails of a slow fault, by the rows that tell them.
use Rattle.std.proofs.Common.{◌≡◌, ℕ, ◌<◌, Bool, true, false, ◌&&◌, List, length, refl, sym, ap, ◌∙◌, inl, inr}
use Rattle.std.proofs.Math.Bool.{and_assoc}
use Rattle.std.proofs.lemmas.Bool.{cases_Bool, both_ways, eq-eqb}
use Rattle.scan_model.specs.declared.values.Tri.{Tri}
use Rattle.scan_model.specs.declared.circuit.Driver.{Driver}
use Rattle.scan_model.specs.declared.circuit.Driver.TheVariants.{Gate}
use Rattle.scan_model.specs.declared.circuit.GateKind.{GateKind}
use Rattle.scan_model.specs.declared.circuit.PinPlace.TheVariants as place
use Rattle.scan_model.specs.declared.fault.Stuck.{Stuck}
use Rattle.scan_model.specs.declared.fault.Fault.{Fault}
use Rattle.scan_model.specs.declared.fault.Fault.TheVariants as fault
use Rattle.scan_model.specs.Values.{are_opposite}
use Rattle.scan_model.specs.Netlist.{IsNetlist, is_gate, is_gate_driver, driver_of, pin_at}
use Rattle.scan_model.specs.Walks.{IsEvaluationOrder}
use Rattle.scan_model.specs.ScanTest.{ScanTest, IsScanTest, HasSite, points_of, point_at}
use Rattle.scan_model.specs.Faults.{stuck_value}
use Rattle.scan_model.specs.NetValue.{driven, values_of, nothing_forced}
use Rattle.scan_model.specs.Coverage.{bit_of}
use Rattle.scan_model.specs.Masks.{flip_shows_from, mask_from, is_operand_of, place_is_point}
use Rattle.scan_model.proofs.counting.Branches.{force_pin}
use Rattle.scan_model.proofs.counting.Shown.{point_at-IsPoint}
use Rattle.packed_sim.specs.PackedParts.{observed_at}
use Rattle.frame_rows.specs.Frames.{second_source, net_changes}
use Rattle.frame_rows.proofs.SecondValues.{changes_is}
use Rattle.two_frame.specs.TwoFrame.{frame_fails, makes_transition}
use Rattle.two_frame.proofs.SlowStems.{slow_stem_law}
use Rattle.two_frame.proofs.SlowOperands.{slow_operand_law}
use Rattle.two_frame.proofs.SlowPins.{straight_law}
use Rattle.two_frame.proofs.Transitions.{frame_fails-is, only_transitions_in}

module _ (t : ScanTest) (sound : IsScanTest t) (order : List ℕ) (ordered : IsEvaluationOrder t.netlist order) (w : ℕ) where
  net_sound : IsNetlist t.netlist
  net_sound = sound.circuit.netlist

  abbrev s : ℕ → Tri
  s = second_source t w

  abbrev good2 : ℕ → Tri
  good2 = values_of t.netlist (second_source t w) nothing_forced

  pub stem_fails-is : (m : ℕ) (v : Stuck) (k : ℕ) → m < length t.netlist.nets → k < length (points_of t)
      → frame_fails t (fault.Stem m v) (bit_of w k) ≡ (net_changes t v w m && flip_shows_from t.netlist (second_source t w) m (observed_at t k))
  stem_fails-is m v k m_lt lt =
      frame_fails-is t (fault.Stem m v) w k lt
      ∙ slow_stem_law t sound order ordered w m v m_lt (point_at t k) (point_at-IsPoint t sound k lt)
      ∙ ap (λ (b : Bool). b && flip_shows_from t.netlist (second_source t w) m (observed_at t k)) (changes_is t sound order ordered w v m m_lt)

  pub gate_fails-is : (q g i : ℕ) (kind : GateKind) (v : Stuck) (k : ℕ) → q < length t.netlist.pins → (pin_at t.netlist q).place ≡ place.Operand g i → driver_of t.netlist g ≡ Gate kind → k < length (points_of t)
      → frame_fails t (fault.Branch q v) (bit_of w k) ≡ ((net_changes t v w (pin_at t.netlist q).net && mask_from t.netlist (second_source t w) (fault.Branch q v) g) && flip_shows_from t.netlist (second_source t w) g (observed_at t k))
  gate_fails-is q g i kind v k q_lt at drives lt =
      let m = (pin_at t.netlist q).net in
      let output = driven t.netlist (second_source t w) (force_pin q (stuck_value v)) (Gate kind) good2 g in
      let shows = flip_shows_from t.netlist (second_source t w) g (observed_at t k) in
      let own : is_operand_of g (pin_at t.netlist q).place ≡ true = ap (is_operand_of g) at ∙ eq-eqb g g refl in
      let masked : are_opposite (good2 g) output ≡ mask_from t.netlist (second_source t w) (fault.Branch q v) g =
      ap (λ (d : Driver). are_opposite (good2 g) (driven t.netlist (second_source t w) (force_pin q (stuck_value v)) d good2 g)) (sym drives)
      ∙ sym (ap (λ (b : Bool). b && are_opposite (good2 g) (driven t.netlist (second_source t w) (force_pin q (stuck_value v)) (driver_of t.netlist g) good2 g)) own) in
      frame_fails-is t (fault.Branch q v) w k lt
      ∙ slow_operand_law t sound order ordered w q g i kind v q_lt at drives (point_at t k) (point_at-IsPoint t sound k lt)
      ∙ ap (λ (b : Bool). b && (are_opposite (good2 g) output && shows)) (changes_is t sound order ordered w v m (net_sound.pin_nets q q_lt))
      ∙ ap (λ (b : Bool). net_changes t v w m && (b && shows)) masked
      ∙ sym (and_assoc (net_changes t v w m) (mask_from t.netlist (second_source t w) (fault.Branch q v) g) shows)

  pub pin_fails-is : (q : ℕ) (v : Stuck) (k : ℕ) → q < length t.netlist.pins → ((n i : ℕ) → (pin_at t.netlist q).place ≡ place.Operand n i → is_gate t.netlist n ≡ false) → k < length (points_of t)
      → frame_fails t (fault.Branch q v) (bit_of w k) ≡ (net_changes t v w (pin_at t.netlist q).net && place_is_point t (pin_at t.netlist q).place (point_at t k))
  pin_fails-is q v k q_lt straight lt =
      frame_fails-is t (fault.Branch q v) w k lt
      ∙ straight_law t sound order ordered w q v q_lt (λ n i kind drives at. both_ways (is_gate t.netlist n) (straight n i at) (ap is_gate_driver drives)) (point_at t k) (point_at-IsPoint t sound k lt)
      ∙ ap (λ (b : Bool). b && place_is_point t (pin_at t.netlist q).place (point_at t k)) (changes_is t sound order ordered w v (pin_at t.netlist q).net (net_sound.pin_nets q q_lt))

  -- without a transition there is no fail
  pub unlaunched : (f : Fault) → HasSite t f → makes_transition t f w ≡ false → (k : ℕ) → k < length (points_of t) → frame_fails t f (bit_of w k) ≡ false
  unlaunched f site still k lt = elim (cases_Bool (frame_fails t f (bit_of w k))) [
    | inl fails ↦ absurd (both_ways (makes_transition t f w) still (only_transitions_in t sound order ordered w f site k lt fails))
    | inr none ↦ none
  ]

pub and_same : (b x : Bool) → x ≡ true → (b && x) ≡ b
and_same true x is = is
and_same false x is = refl
