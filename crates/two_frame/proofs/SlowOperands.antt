-- A slow operand of a gate is the operand stuck at the first value in the second frame, where its net changes the transition.
use mathlib.Core.Path.{fun_ext}
use Rattle.std.proofs.Common.{◌≡◌, ℕ, ◌+◌, ◌<◌, Bool, true, false, eqb, ◌&&◌, List, length, map, Option, Some, None, refl, sym, ap, subst, ◌∙◌, inl, inr}
use Rattle.std.specs.Prelude.{Contains}
use Rattle.std.proofs.lemmas.Bool.{cases_eq, eq-eqb, ne_eqb, and_left}
use Rattle.scan_model.specs.declared.values.Tri.{Tri}
use Rattle.scan_model.specs.declared.values.Tri.TheVariants.{Zero, One, Unknown}
use Rattle.scan_model.specs.declared.circuit.Driver.{Driver}
use Rattle.scan_model.specs.declared.circuit.Driver.TheVariants.{Input, Flop, Gate}
use Rattle.scan_model.specs.declared.circuit.GateKind.{GateKind}
use Rattle.scan_model.specs.declared.circuit.PinPlace.{PinPlace}
use Rattle.scan_model.specs.declared.circuit.PinPlace.TheVariants as place
use Rattle.scan_model.specs.declared.fault.Stuck.{Stuck}
use Rattle.scan_model.specs.declared.fault.Stuck.TheVariants as stuck
use Rattle.scan_model.specs.declared.fault.Fault.{Fault}
use Rattle.scan_model.specs.declared.fault.Fault.TheVariants as fault
use Rattle.scan_model.specs.declared.parts.Point.{Point}
use Rattle.scan_model.specs.Values.{are_opposite, gate_value}
use Rattle.scan_model.specs.Netlist.{IsNetlist, IsPlacedAt, reads, is_gate, is_gate_driver, driver_of, net_at, pin_at, operands}
use Rattle.scan_model.specs.Walks.{IsEvaluationOrder}
use Rattle.scan_model.specs.ScanTest.{ScanTest, IsScanTest, IsPoint}
use Rattle.scan_model.specs.Faults.{stuck_value}
use Rattle.scan_model.specs.NetValue.{seen, driven, values_of, nothing_forced, good_value}
use Rattle.scan_model.specs.Suspect.{observed_net}
use Rattle.scan_model.specs.Force.{force}
use Rattle.scan_model.specs.BranchMask.{senses}
use Rattle.scan_model.specs.Masks.{operand_values_from, point_pin, operand_is_point, place_is_point, flip_shows_from}
use Rattle.scan_model.proofs.FanSweeps.{is_read, reads_in_range}
use Rattle.scan_model.proofs.counting.Valuations.{valuation_is}
use Rattle.scan_model.proofs.counting.Branches.{force_pin, branch_is_force, no_loop}
use Rattle.scan_model.proofs.counting.OneSite.{unflipped, force_outside}
use Rattle.scan_model.proofs.counting.BranchPins.{forced_gate_flips}
use Rattle.scan_model.proofs.counting.Flips.{force_shows_from}
use Rattle.scan_model.proofs.counting.Shown.{point_pin-net, observed_net-in_range, place_is_point-is}
use Rattle.frame_rows.specs.Frames.{slowed, changes, second_source, frame_seen, second_driven, second_value}
use Rattle.frame_rows.proofs.SecondValues.{meets, none_is}
use Rattle.two_frame.specs.TwoFrame.{frame_fails_at}
use Rattle.two_frame.proofs.SlowStems.{unmade_stays}

-- a transition that is made has the first value
made_stuck : (v : Stuck) (a b : Tri) → changes v a b ≡ true → slowed v a b ≡ stuck_value v
made_stuck stuck.Zero Zero b e = absurd_or b e
  where
    absurd_or : (b : Tri) → changes stuck.Zero Zero b ≡ true → slowed stuck.Zero Zero b ≡ Zero
    absurd_or Zero e = absurd cc
    absurd_or One e = refl
    absurd_or Unknown e = absurd cc
made_stuck stuck.Zero One b e = absurd cc
made_stuck stuck.Zero Unknown b e = absurd cc
made_stuck stuck.One One b e = absurd_or b e
  where
    absurd_or : (b : Tri) → changes stuck.One One b ≡ true → slowed stuck.One One b ≡ One
    absurd_or One e = absurd cc
    absurd_or Zero e = refl
    absurd_or Unknown e = absurd cc
made_stuck stuck.One Zero b e = absurd cc
made_stuck stuck.One Unknown b e = absurd cc

module _ (t : ScanTest) (sound : IsScanTest t) (order : List ℕ) (ordered : IsEvaluationOrder t.netlist order) (w q g i : ℕ) (kind : GateKind) (v : Stuck) (q_lt : q < length t.netlist.pins)
    (at : (pin_at t.netlist q).place ≡ place.Operand g i) (drives : driver_of t.netlist g ≡ Gate kind) where
  net_sound : IsNetlist t.netlist
  net_sound = sound.circuit.netlist

  abbrev s : ℕ → Tri
  s = second_source t w

  abbrev good2 : ℕ → Tri
  good2 = values_of t.netlist (second_source t w) nothing_forced

  abbrev m : ℕ
  m = (pin_at t.netlist q).net

  abbrev F : Option Fault
  F = Some (fault.Branch q v)

  abbrev V : ℕ → Tri
  V = second_value t F w

  abbrev output : Tri → Tri
  output x = gate_value kind (map (seen t.netlist (force_pin q x) good2) (operands t.netlist g))

  stands : (g < length t.netlist.nets) × (i < (net_at t.netlist g).pin_count) × (q ≡ (net_at t.netlist g).first_pin + i)
  stands = subst (IsPlacedAt t.netlist q) at (net_sound.pin_places q q_lt)

  gate_g : is_gate t.netlist g ≡ true
  gate_g = ap is_gate_driver drives

  reads_m : Contains (reads t.netlist g) m
  reads_m = subst (λ (k : ℕ). Contains (reads t.netlist g) (pin_at t.netlist k).net) (sym stands.2) (is_read t.netlist g i stands.1)

  pin_same : (x : Tri) → x ≡ slowed v (good_value t w m) (V m) → (p : ℕ) → frame_seen t F w V p ≡ seen t.netlist (force_pin q x) V p
  pin_same x is p = elim (cases_eq p q) [
    | inl here ↦ rw (eq-eqb p q here) (ap (λ (k : ℕ). slowed v (good_value t w (pin_at t.netlist k).net) (V (pin_at t.netlist k).net)) here ∙ sym is)
    | inr other ↦ rw (ne_eqb p q other) refl
  ]

  pin_driven : (x : Tri) → x ≡ slowed v (good_value t w m) (V m) → (n : ℕ) (d : Driver) → second_driven t F w d V n ≡ driven t.netlist (second_source t w) (force_pin q x) d V n
  pin_driven x is n Input = refl
  pin_driven x is n Flop = refl
  pin_driven x is n (Gate k) = ap (λ (h : ℕ → Tri). gate_value k (map h (operands t.netlist n))) (fun_ext (pin_same x is))

  forced_own : (x : Tri) → x ≡ slowed v (good_value t w m) (V m) → (n : ℕ) → n < length t.netlist.nets → V n ≡ values_of t.netlist (second_source t w) (force_pin q x) n
  forced_own x is n lt = valuation_is t.netlist order net_sound ordered (second_source t w) (force_pin q x) V
      (λ k in'. meets t sound order ordered w F k in' ∙ pin_driven x is k (driver_of t.netlist k)) n lt

  as_gate : (x : Tri) (n : ℕ) → n < length t.netlist.nets → values_of t.netlist (second_source t w) (force_pin q x) n ≡ values_of t.netlist (second_source t w) (force g (output x)) n
  as_gate x n lt = branch_is_force t.netlist order net_sound ordered (second_source t w) q g i x kind stands.0 at drives n lt

  m_is : V m ≡ good2 m
  m_is =
      let x : Tri = slowed v (good_value t w m) (V m) in
      let lt = reads_in_range t.netlist g m net_sound stands.0 reads_m in
      forced_own x refl m lt ∙ as_gate x m lt
      ∙ force_outside t.netlist order net_sound ordered (second_source t w) g (output x) m lt (no_loop t.netlist order net_sound ordered g m stands.0 gate_g reads_m)

  V_is : (n : ℕ) → n < length t.netlist.nets → V n ≡ values_of t.netlist (second_source t w) (force g (output (slowed v (good_value t w m) (good2 m)))) n
  V_is n lt = forced_own (slowed v (good_value t w m) (good2 m)) (ap (slowed v (good_value t w m)) (sym m_is)) n lt ∙ as_gate (slowed v (good_value t w m) (good2 m)) n lt

  -- an operand that isn't the other value doesn't flip the gate
  output_stays : (x : Tri) → are_opposite (good2 m) x ≡ false → are_opposite (good2 g) (output x) ≡ false
  output_stays x miss =
      forced_gate_flips t.netlist order net_sound ordered (second_source t w) q g i x kind q_lt at drives
      ∙ and_left (are_opposite (good2 m) x) (senses kind (operand_values_from t.netlist (second_source t w) g) i) miss

  at_net : (o : ℕ) → o < length t.netlist.nets → (b : Bool) → changes v (good_value t w m) (good2 m) ≡ b → are_opposite (good2 o) (V o) ≡ (b && (are_opposite (good2 g) (output (stuck_value v)) && flip_shows_from t.netlist (second_source t w) g o))
  at_net o lt true made = ap (are_opposite (good2 o)) (V_is o lt ∙ ap (λ (x : Tri). values_of t.netlist (second_source t w) (force g (output x)) o) (made_stuck v (good_value t w m) (good2 m) made)) ∙ force_shows_from t.netlist order net_sound ordered (second_source t w) g (output (stuck_value v)) o lt
  at_net o lt false unmade =
      let x : Tri = slowed v (good_value t w m) (good2 m) in
      ap (are_opposite (good2 o)) (V_is o lt) ∙ unflipped t.netlist order net_sound ordered (second_source t w) g (output x) (output_stays x (unmade_stays v (good_value t w m) (good2 m) unmade)) o lt

  pub slow_operand_law : (p : Point) → IsPoint t p → frame_fails_at t (fault.Branch q v) w p
      ≡ (changes v (good_value t w m) (good2 m) && (are_opposite (good2 g) (output (stuck_value v)) && flip_shows_from t.netlist (second_source t w) g (observed_net t p)))
  slow_operand_law p is_point =
      let o = observed_net t p in
      let lt = observed_net-in_range t sound p is_point in
      let apart : eqb (point_pin t p) q ≡ false = sym (place_is_point-is t sound q p q_lt is_point) ∙ ap (λ (x : PinPlace). place_is_point t x p) at ∙ ap (λ (d : Driver). operand_is_point t d g p) drives in
      rw apart
      (ap (λ (k : ℕ). are_opposite (second_value t None w k) (V k)) (point_pin-net t sound p is_point)
      ∙ ap (λ (x : Tri). are_opposite x (V o)) (none_is t sound order ordered w o lt)
      ∙ at_net o lt (changes v (good_value t w m) (good2 m)) refl)
