-- A logic fault changes the XOR of some points where it flips a net and one flip of that net shows, or where its pin goes
-- straight to one of the points.
use Rattle.std.proofs.Common.{◌≡◌, ℕ, ◌<◌, Bool, true, false, cond, eqb, ◌&&◌, ◌||◌, List, [], ◌∷◌, length, map, Some, None, refl, sym, ap, subst, ◌∙◌, inl, inr}
use Rattle.std.specs.Prelude.{Contains}
use Rattle.std.specs.List.{list_any, AllByRecursion}
use Rattle.std.proofs.Math.Bool.{or-false}
use Rattle.std.proofs.lemmas.Bool.{cases_Bool, eq-eqb}
use Rattle.scan_model.specs.declared.values.Tri.{Tri}
use Rattle.scan_model.specs.declared.values.Tri.TheVariants.{Unknown}
use Rattle.scan_model.specs.declared.circuit.Driver.{Driver}
use Rattle.scan_model.specs.declared.circuit.Driver.TheVariants.{Input, Flop, Gate}
use Rattle.scan_model.specs.declared.circuit.GateKind.{GateKind}
use Rattle.scan_model.specs.declared.circuit.PinPlace.{PinPlace}
use Rattle.scan_model.specs.declared.circuit.PinPlace.TheVariants as place
use Rattle.scan_model.specs.declared.fault.Stuck.{Stuck}
use Rattle.scan_model.specs.declared.fault.BridgeKind.{BridgeKind}
use Rattle.scan_model.specs.declared.fault.Fault.{Fault}
use Rattle.scan_model.specs.declared.fault.Fault.TheVariants as fault
use Rattle.scan_model.specs.declared.parts.Point.{Point}
use Rattle.scan_model.specs.declared.parts.PatternKind.TheVariants.{Capture, Shift}
use Rattle.scan_model.specs.Values.{IsAtLeast, are_opposite, tri_not, xor_of}
use Rattle.scan_model.specs.Netlist.{IsNetlist, IsPlacedAt, is_gate, is_gate_driver, pin_at, driver_of}
use Rattle.scan_model.specs.Walks.{IsEvaluationOrder}
use Rattle.scan_model.specs.ScanTest.{ScanTest, IsScanTest, IsPoint, HasSite, pattern_at}
use Rattle.scan_model.specs.Faults.{stuck_value, bridged}
use Rattle.scan_model.specs.NetValue.{values_of, driven, source_of, good_value, net_value, pin_value}
use Rattle.scan_model.specs.Universe.{universe}
use Rattle.scan_model.specs.Response.{observed}
use Rattle.scan_model.specs.Suspect.{observed_net}
use Rattle.scan_model.specs.Force.{force}
use Rattle.scan_model.specs.Masks.{point_pin, is_operand_of, forced_output, mask, operand_is_point, place_is_point, place_nets, touched_nets, IsLogic}
use Rattle.scan_model.proofs.Definite.{xor-at_least}
use Rattle.scan_model.proofs.Sites.{site_of}
use Rattle.scan_model.proofs.counting.Valuations.{own_force, force-at_least}
use Rattle.scan_model.proofs.counting.Branches.{force_pin, branch_is_force}
use Rattle.scan_model.proofs.counting.OneSite.{opposite_is_not, compare, above_not_opposite, below_not_opposite}
use Rattle.scan_model.proofs.counting.LogicFaults.{IsLoopFree, loop_free}
use Rattle.scan_model.proofs.counting.Flips.{unread_is_good}
use Rattle.scan_model.proofs.counting.Masks.{bridge_is_force}
use Rattle.scan_model.proofs.counting.Shown.{not_opposite_itself, logic_keeps, shifted_same, observed_sees, observed_good, observed_net-in_range, point_pin-net, place_is_point-is}
use Rattle.chain_compactor.specs.Flips.{differs, flip_differs, straight_value}
use Rattle.chain_compactor.proofs.Xors.{map_above, map_same}

abbrev is_operand_place : PinPlace → Bool
is_operand_place (place.Operand n i) = true
is_operand_place (place.Output k) = false

abbrev place_owner : PinPlace → ℕ
place_owner (place.Operand n i) = n
place_owner (place.Output k) = 0

module _ (t : ScanTest) (sound : IsScanTest t) (order : List ℕ) (ordered : IsEvaluationOrder t.netlist order) (w : ℕ) where
  abbrev s : ℕ → Tri
  s = source_of t None w

  abbrev good : ℕ → Tri
  good = good_value t w

  net_sound : IsNetlist t.netlist
  net_sound = sound.circuit.netlist

  abbrev forced : ℕ → Tri → Point → Tri
  forced n x p = values_of t.netlist s (force n x) (observed_net t p)

  abbrev unchanged : Point → Tri
  unchanged p = good (observed_net t p)

  -- the XOR of some points under the fault is the opposite of the fault-free one
  abbrev pub fails_at : Fault → List Point → Bool
  fails_at f ps = are_opposite (xor_of (map (observed t None w) ps)) (xor_of (map (observed t (Some f) w) ps))

  -- what the law says of a fault
  abbrev pub is_told : Fault → List Point → Bool
  is_told f ps = list_any (λ n. mask t f w n && flip_differs t w n ps) (touched_nets t f) || differs t w ps (straight_value t f w)

  -- ---- one net forced

  own : (n : ℕ) (p : Point) → IsPoint t p → good (observed_net t p) ≡ forced n (good n) p
  own n p is_point = own_force t.netlist order net_sound ordered s n (observed_net t p) (observed_net-in_range t sound p is_point)

  pub forced_differs : (n : ℕ) (x : Tri) (ps : List Point) → AllByRecursion (IsPoint t) ps → differs t w ps (forced n x) ≡ (are_opposite (good n) x && flip_differs t w n ps)
  forced_differs n x ps all = elim (cases_Bool (are_opposite (good n) x)) [
    | inl flips ↦ rw flips (ap (λ (y : Tri). differs t w ps (forced n y)) (opposite_is_not (good n) x flips))
    | inr miss ↦ rw miss (elim (compare (good n) x miss) [
      | inl more ↦ above_not_opposite (xor_of (map unchanged ps)) (xor_of (map (forced n x) ps)) (xor-at_least (map (forced n x) ps) (map unchanged ps)
          (map_above (IsPoint t) (forced n x) unchanged ps all (λ p is_point. subst (IsAtLeast (forced n x p)) (sym (own n p is_point)) (force-at_least t.netlist order net_sound ordered s n x (good n) more (observed_net t p)))))
      | inr less ↦ below_not_opposite (xor_of (map unchanged ps)) (xor_of (map (forced n x) ps)) (xor-at_least (map unchanged ps) (map (forced n x) ps)
          (map_above (IsPoint t) unchanged (forced n x) ps all (λ p is_point. subst (λ (y : Tri). IsAtLeast y (forced n x p)) (sym (own n p is_point)) (force-at_least t.netlist order net_sound ordered s n (good n) x less (observed_net t p)))))
    ])
  ]

  -- a net that is X shows nothing
  pub unknown_hides : (n : ℕ) (ps : List Point) → AllByRecursion (IsPoint t) ps → good n ≡ Unknown → flip_differs t w n ps ≡ false
  unknown_hides n ps all is =
      ap (λ (x : Tri). differs t w ps (λ q. values_of t.netlist s (force n (tri_not x)) (observed_net t q))) is
      ∙ forced_differs n Unknown ps all
      ∙ ap (λ (x : Tri). are_opposite x Unknown && flip_differs t w n ps) is

  none_straight : (ps : List Point) → differs t w ps unchanged ≡ false
  none_straight ps = not_opposite_itself (xor_of (map unchanged ps))

  module _ (ps : List Point) (all : AllByRecursion (IsPoint t) ps) (captures : (pattern_at t w).kind ≡ Capture) where
    -- a fault of which it is known what each point shows
    shown_as : (f : Fault) (shows : Point → Tri) → ((p : Point) → IsPoint t p → observed t (Some f) w p ≡ shows p) → fails_at f ps ≡ differs t w ps shows
    shown_as f shows is = rw (
      map_same (IsPoint t) (observed t None w) unchanged ps all (λ p is_point. observed_good t sound w p is_point captures),
      map_same (IsPoint t) (observed t (Some f) w) shows ps all is,
    ) refl

    -- a fault under which the nets have the values of one net forced
    forced_fails : (f : Fault) (n : ℕ) (x : Tri) → ((p : Point) → IsPoint t p → observed t (Some f) w p ≡ forced n x p) → fails_at f ps ≡ (are_opposite (good n) x && flip_differs t w n ps)
    forced_fails f n x is = shown_as f (forced n x) is ∙ forced_differs n x ps all

    stem_told : (m : ℕ) (v : Stuck) → fails_at (fault.Stem m v) ps ≡ is_told (fault.Stem m v) ps
    stem_told m v =
        let shown = are_opposite (good m) (stuck_value v) && flip_differs t w m ps in
        forced_fails (fault.Stem m v) m (stuck_value v) (λ p is_point. observed_sees t sound (fault.Stem m v) w p is_point captures (logic_keeps (fault.Stem m v) p tt) ∙ ap (values_of t.netlist s (force m (stuck_value v))) (point_pin-net t sound p is_point))
        ∙ sym (rw (eq-eqb m m refl, none_straight ps) (or-false (shown || false) ∙ or-false shown))

    bridge_told : (a b : ℕ) (kind : BridgeKind) → HasSite t (fault.Bridge a b kind) → IsLoopFree t (fault.Bridge a b kind) → fails_at (fault.Bridge a b kind) ps ≡ is_told (fault.Bridge a b kind) ps
    bridge_told a b kind site free =
        let f = fault.Bridge a b kind in
        let one = bridge_is_force t sound order ordered w a b kind site free in
        forced_fails f one.0 (bridged kind (good a) (good b)) (λ p is_point.
        observed_sees t sound f w p is_point captures (logic_keeps f p tt) ∙ ap (net_value t (Some f) w) (point_pin-net t sound p is_point) ∙ one.1.values (observed_net t p) (observed_net-in_range t sound p is_point))
        ∙ sym (one.1.masks (λ n. flip_differs t w n ps))
        ∙ sym (rw (none_straight ps) (or-false (list_any (λ n. mask t f w n && flip_differs t w n ps) (touched_nets t f))))

    module _ (q : ℕ) (v : Stuck) (site : q < length t.netlist.pins) where
      abbrev f : Fault
      f = fault.Branch q v

      seen_at : (p : Point) → IsPoint t p → observed t (Some (fault.Branch q v)) w p ≡ cond (eqb (point_pin t p) q) (stuck_value v) (net_value t (Some (fault.Branch q v)) w (observed_net t p))
      seen_at p is_point =
          observed_sees t sound (fault.Branch q v) w p is_point captures (logic_keeps (fault.Branch q v) p tt)
          ∙ by_pin (eqb (point_pin t p) q) refl
        where
          by_pin : (b : Bool) → eqb (point_pin t p) q ≡ b → pin_value t (Some (fault.Branch q v)) w (point_pin t p) ≡ cond (eqb (point_pin t p) q) (stuck_value v) (net_value t (Some (fault.Branch q v)) w (observed_net t p))
          by_pin true same = rw same refl
          by_pin false other = rw other (ap (net_value t (Some (fault.Branch q v)) w) (point_pin-net t sound p is_point))

      -- a pin that no gate reads
      leaf_told : ((n i : ℕ) → (pin_at t.netlist q).place ≡ place.Operand n i → is_gate t.netlist n ≡ false) → place_nets t (pin_at t.netlist q).place ≡ [] → fails_at (fault.Branch q v) ps ≡ is_told (fault.Branch q v) ps
      leaf_told unread nets = rw nets
          (shown_as (fault.Branch q v) (straight_value t (fault.Branch q v) w) (λ p is_point.
          seen_at p is_point
          ∙ rw (place_is_point-is t sound q p site is_point)
          (ap (cond (eqb (point_pin t p) q) (stuck_value v)) (unread_is_good t.netlist order net_sound ordered s q (stuck_value v) unread (observed_net t p) (observed_net-in_range t sound p is_point)))))

      -- an operand of a gate
      gate_told : (n i : ℕ) (kind : GateKind) → (pin_at t.netlist q).place ≡ place.Operand n i → driver_of t.netlist n ≡ Gate kind → fails_at (fault.Branch q v) ps ≡ is_told (fault.Branch q v) ps
      gate_told n i kind at drives =
          let stands : IsPlacedAt t.netlist q (place.Operand n i) = subst (IsPlacedAt t.netlist q) at (net_sound.pin_places q site) in
          let nets : place_nets t (pin_at t.netlist q).place ≡ n ∷ [] = ap (place_nets t) at ∙ ap (λ (g : Bool). cond g (n ∷ []) []) (ap is_gate_driver drives) in
          let own_operand : is_operand_of n (pin_at t.netlist q).place ≡ true = ap (is_operand_of n) at ∙ eq-eqb n n refl in
          let off : (p : Point) → place_is_point t (pin_at t.netlist q).place p ≡ false = λ p. ap (λ (x : PinPlace). place_is_point t x p) at ∙ ap (λ (d : Driver). operand_is_point t d n p) drives in
          let shown = are_opposite (good n) (forced_output t w (fault.Branch q v) n) && flip_differs t w n ps in
          let not_straight : map (straight_value t (fault.Branch q v) w) ps ≡ map unchanged ps = map_same (IsPoint t) (straight_value t (fault.Branch q v) w) unchanged ps all (λ p is_point. rw (off p) refl) in
          forced_fails (fault.Branch q v) n (forced_output t w (fault.Branch q v) n) (λ p is_point.
          let apart : eqb (point_pin t p) q ≡ false = sym (place_is_point-is t sound q p site is_point) ∙ off p in
          seen_at p is_point ∙ rw apart (gate_forced n i kind stands.0 at drives (observed_net t p) (observed_net-in_range t sound p is_point)))
          ∙ sym (rw (nets, own_operand, not_straight, none_straight ps) (or-false (shown || false) ∙ or-false shown))
        where
          gate_forced : (n i : ℕ) (kind : GateKind) → n < length t.netlist.nets → (pin_at t.netlist q).place ≡ place.Operand n i → driver_of t.netlist n ≡ Gate kind → (o : ℕ) → o < length t.netlist.nets
              → net_value t (Some (fault.Branch q v)) w o ≡ values_of t.netlist s (force n (forced_output t w (fault.Branch q v) n)) o
          gate_forced n i kind in' at drives o lt =
              branch_is_force t.netlist order net_sound ordered s q n i (stuck_value v) kind in' at drives o lt
              ∙ ap (λ (y : Tri). values_of t.netlist s (force n y) o) (sym (ap (λ (d : Driver). driven t.netlist s (force_pin q (stuck_value v)) d good n) drives))

      operand_told : (n i : ℕ) → (pin_at t.netlist q).place ≡ place.Operand n i → (d : Driver) → driver_of t.netlist n ≡ d → fails_at (fault.Branch q v) ps ≡ is_told (fault.Branch q v) ps
      operand_told n i at (Gate kind) drives = gate_told n i kind at drives
      operand_told n i at Input drives = leaf_told (λ m j is. ap (λ (x : PinPlace). is_gate t.netlist (place_owner x)) (sym is ∙ at) ∙ ap is_gate_driver drives) (ap (place_nets t) at ∙ ap (λ (g : Bool). cond g (n ∷ []) []) (ap is_gate_driver drives))
      operand_told n i at Flop drives = leaf_told (λ m j is. ap (λ (x : PinPlace). is_gate t.netlist (place_owner x)) (sym is ∙ at) ∙ ap is_gate_driver drives) (ap (place_nets t) at ∙ ap (λ (g : Bool). cond g (n ∷ []) []) (ap is_gate_driver drives))

      branch_told : (x : PinPlace) → (pin_at t.netlist q).place ≡ x → fails_at (fault.Branch q v) ps ≡ is_told (fault.Branch q v) ps
      branch_told (place.Operand n i) at = operand_told n i at (driver_of t.netlist n) refl
      branch_told (place.Output k) at = leaf_told (λ n i is. absurd (let e : true ≡ false = ap is_operand_place (sym is ∙ at) in cc)) (ap (place_nets t) at)

    told : (f : Fault) → HasSite t f → IsLoopFree t f → IsLogic f → fails_at f ps ≡ is_told f ps
    told (fault.Stem m v) site free logic = stem_told m v
    told (fault.Branch q v) site free logic = branch_told q v site (pin_at t.netlist q).place refl
    told (fault.Bridge a b kind) site free logic = bridge_told a b kind site free
    told (fault.Cell h c kind) site free logic = absurd logic

    pub captured_fails : (f : Fault) → Contains (universe t) f → IsLogic f → fails_at f ps ≡ is_told f ps
    captured_fails f there logic = told f (site_of t f sound there) (loop_free t f sound there) logic

  -- in a pattern that only shifts
  pub shifted_fails : (f : Fault) (ps : List Point) → IsLogic f → (pattern_at t w).kind ≡ Shift → fails_at f ps ≡ false
  shifted_fails f ps logic shifts =
      ap (λ (vs : List Tri). are_opposite (xor_of (map (observed t None w) ps)) (xor_of vs)) (same ps) ∙ not_opposite_itself (xor_of (map (observed t None w) ps))
    where
      same : (ps : List Point) → map (observed t (Some f) w) ps ≡ map (observed t None w) ps
      same [] = refl
      same (p ∷ ps) = rw (shifted_same t sound f w p shifts (logic_keeps f p logic), same ps) refl
