-- A net that one gate reads through one pin shows what that pin's branch shows.
use Rattle.std.proofs.Common.{◌≡◌, ◌≢◌, ℕ, zero, suc, ◌+◌, ◌<◌, Bool, true, false, cond, eqb, ◌&&◌, List, length, map, None, refl, sym, ap, subst, ◌∙◌, inl, inr, arith}
use Rattle.std.specs.Prelude.{Contains}
use Rattle.std.specs.List.{range_with_len}
use Rattle.std.proofs.lemmas.Bool.{cases_eq, eq-eqb, ne_eqb, both_ways, cond-true, cond-false}
use Rattle.std.proofs.lemmas.List.FromFn.{length-map-range_with_len}
use Rattle.scan_model.specs.declared.values.Tri.{Tri}
use Rattle.scan_model.specs.declared.values.Tri.TheVariants.{Zero, One, Unknown}
use Rattle.scan_model.specs.declared.circuit.Driver.{Driver}
use Rattle.scan_model.specs.declared.circuit.Driver.TheVariants.{Input, Flop, Gate}
use Rattle.scan_model.specs.declared.circuit.GateKind.{GateKind}
use Rattle.scan_model.specs.declared.circuit.PinPlace.{PinPlace}
use Rattle.scan_model.specs.declared.circuit.PinPlace.TheVariants as place
use Rattle.scan_model.specs.declared.parts.Point.{Point}
use Rattle.scan_model.specs.Values.{are_opposite, tri_not, gate_value}
use Rattle.scan_model.specs.Netlist.{Netlist, IsNetlist, IsPlacedAt, reads, is_gate, is_gate_driver, driver_of, net_at, pin_at, operands}
use Rattle.scan_model.specs.Walks.{IsEvaluationOrder}
use Rattle.scan_model.specs.Cone.{in_fan_in}
use Rattle.scan_model.specs.ScanTest.{ScanTest, IsScanTest, IsPoint}
use Rattle.scan_model.specs.NetValue.{Forced, seen, driven, net_node, values_of, source_of, nothing_forced}
use Rattle.scan_model.specs.Suspect.{observed_net}
use Rattle.scan_model.proofs.NetValues.{values_of-is, net_node_local}
use Rattle.scan_model.proofs.FanSweeps.{is_read, reads_in_range, in_own}
use Rattle.scan_model.specs.Force.{force}
use Rattle.scan_model.specs.BranchMask.{senses}
use Rattle.scan_model.specs.Masks.{point_pin, flipped_from, flip_shows_from, flip_shows_at, operand_is_point, place_is_point, operand_values_from, operand_values}
use Rattle.scan_model.proofs.counting.Valuations.{valuation_is, own_force}
use Rattle.scan_model.proofs.counting.Branches.{force_pin, branch_is_force, no_loop}
use Rattle.scan_model.proofs.counting.OneSite.{force_outside}
use Rattle.scan_model.proofs.counting.BranchMasks.{senses_unknown}
use Rattle.scan_model.proofs.counting.BranchPins.{forced_gate_flips, good_is, count_fits, first_value}
use Rattle.scan_model.proofs.counting.Shown.{not_opposite_itself, point_pin-net, point_pin-in_range, observed_net-in_range, place_is_point-is}
use Rattle.scan_model.proofs.counting.Flips.{unforced, force_shows_from}

map_agree_in : (f g : ℕ → Tri) (first count : ℕ) → ((j : ℕ) → j < count → f (first + j) ≡ g (first + j)) → map f (range_with_len first count) ≡ map g (range_with_len first count)
map_agree_in f g first zero same = refl
map_agree_in f g first (suc count) same =
    let z : first + 0 ≡ first = omega arith in
    let here : f first ≡ g first = ap f (sym z) ∙ same 0 (omega arith) ∙ ap g z in
    let rest = map_agree_in f g (first + 1) count (λ j lt. let e : (first + 1) + j ≡ first + suc j = omega arith in ap f e ∙ same (suc j) (omega arith) ∙ ap g (sym e)) in
    rw (here, rest) refl

abbrev owner : PinPlace → ℕ
owner (place.Operand n i) = n
owner (place.Output k) = 0

module _ (c : Netlist) (order : List ℕ) (sound : IsNetlist c) (ordered : IsEvaluationOrder c order) (s : ℕ → Tri)
    (p n g i : ℕ) (kind : GateKind) (in_range : p < length c.pins) (net : (pin_at c p).net ≡ n) (at : (pin_at c p).place ≡ place.Operand g i) (drives : driver_of c g ≡ Gate kind)
    (one : (q : ℕ) → q < length c.pins → (pin_at c q).net ≡ n → q ≡ p) where
  abbrev good : ℕ → Tri
  good = values_of c s nothing_forced

  stands : (g < length c.nets) × (i < (net_at c g).pin_count) × (p ≡ (net_at c g).first_pin + i)
  stands = subst (IsPlacedAt c p) at (sound.pin_places p in_range)

  n_lt : n < length c.nets
  n_lt = subst (λ (m : ℕ). m < length c.nets) net (sound.pin_nets p in_range)

  gate_g : is_gate c g ≡ true
  gate_g = ap is_gate_driver drives

  reads_n : Contains (reads c g) n
  reads_n = subst (λ (m : ℕ). Contains (reads c g) m) (ap (λ (q : ℕ). (pin_at c q).net) (sym stands.2) ∙ net) (is_read c g i stands.1)

  not_itself : n ≢ g
  not_itself same = both_ways (in_fan_in c g n) (no_loop c order sound ordered g n stands.0 gate_g reads_n) (ap (in_fan_in c g) same ∙ in_own c g)

  abbrev v : Tri
  v = tri_not (good n)

  abbrev V : ℕ → Tri
  V = values_of c s (force n v)

  -- the flip's values with n put back
  abbrev back : ℕ → Tri
  back m = cond (eqb m n) (good n) (V m)

  abbrev FP : Forced
  FP = force_pin p v

  V_at : V n ≡ v
  V_at = values_of-is c order s (force n v) ordered n n_lt ∙ rw (eq-eqb n n refl) refl

  own_read : (m : ℕ) → is_gate c n ≡ true → Contains (reads c n) m → good m ≡ back m
  own_read m gate read =
      let m_lt = reads_in_range c n m sound n_lt read in
      let out = no_loop c order sound ordered n m n_lt gate read in
      let other : m ≢ n = λ same. both_ways (in_fan_in c n m) out (ap (in_fan_in c n) same ∙ in_own c n) in
      rw (ne_eqb m n other) (sym (force_outside c order sound ordered s n v m m_lt out))

  at_n : good n ≡ net_node c s FP n back
  at_n = values_of-is c order s nothing_forced ordered n n_lt ∙ net_node_local c s nothing_forced n good back own_read ∙ go (driver_of c n) refl
    where
      go : (d : Driver) → driver_of c n ≡ d → driven c s nothing_forced d back n ≡ driven c s FP d back n
      go Input is = refl
      go Flop is = refl
      go (Gate kd) is = sym (ap (gate_value kd) (unforced c FP p back (net_at c n).first_pin (net_at c n).pin_count (λ q other. rw (ne_eqb q p other) refl)
          (λ j below same. not_itself (ap owner (sym (sound.operand_places n j n_lt below) ∙ ap (λ (q : ℕ). (pin_at c q).place) same ∙ at)))))

  elsewhere : (m : ℕ) → m < length c.nets → m ≢ n → V m ≡ net_node c s FP m back
  elsewhere m lt other = values_of-is c order s (force n v) ordered m lt ∙ rw (ne_eqb m n other) (go (driver_of c m))
    where
      pin : (q : ℕ) → q < length c.pins → seen c (force n v) V q ≡ seen c FP back q
      pin q q_lt = elim (cases_eq q p) [
        | inl is ↦ rw (eq-eqb q p is) (ap (λ (k : ℕ). V (pin_at c k).net) is ∙ ap V net ∙ V_at)
        | inr differs ↦ rw (ne_eqb q p differs, ne_eqb (pin_at c q).net n (λ same. differs (one q q_lt same))) refl
      ]

      go : (d : Driver) → driven c s (force n v) d V m ≡ driven c s FP d back m
      go Input = refl
      go Flop = refl
      go (Gate kd) = ap (gate_value kd) (map_agree_in (seen c (force n v) V) (seen c FP back) (net_at c m).first_pin (net_at c m).pin_count
          (λ j below. pin ((net_at c m).first_pin + j) (omega (arith, sound.operand_range m lt))))

  back_is : (m : ℕ) → m < length c.nets → back m ≡ values_of c s FP m
  back_is m lt = valuation_is c order sound ordered s FP back (λ k in'. elim (cases_eq k n) [
    | inl is ↦ cond-true (eqb k n) (good n) (V k) (eq-eqb k n is) ∙ at_n ∙ ap (λ (j : ℕ). net_node c s FP j back) (sym is)
    | inr other ↦ cond-false (eqb k n) (good n) (V k) (ne_eqb k n other) ∙ elsewhere k in' other
  ]) m lt

  abbrev output : Tri
  output = gate_value kind (map (seen c FP good) (operands c g))

  -- at another net the flip has the value of the gate's output forced, as the flipped operand makes it
  pub flip_is_gate : (o : ℕ) → o < length c.nets → o ≢ n → flipped_from c s n o ≡ values_of c s (force g (gate_value kind (map (seen c FP good) (operands c g)))) o
  flip_is_gate o lt unseen = sym (cond-false (eqb o n) (good n) (V o) (ne_eqb o n unseen)) ∙ back_is o lt ∙ branch_is_force c order sound ordered s p g i v kind stands.0 at drives o lt

  pub gate_flips : are_opposite (good g) (gate_value kind (map (seen c FP good) (operands c g))) ≡ (are_opposite (good n) v && senses kind (operand_values_from c s g) i)
  gate_flips = forced_gate_flips c order sound ordered s p g i v kind in_range at drives ∙ ap (λ (m : ℕ). are_opposite (good m) v && senses kind (operand_values_from c s g) i) net

  -- the flip shows where the branch does
  shows_by_pin : (o : ℕ) → o < length c.nets → o ≢ n → flip_shows_from c s n o ≡ ((are_opposite (good n) v && senses kind (operand_values_from c s g) i) && flip_shows_from c s g o)
  shows_by_pin o lt unseen =
      ap (are_opposite (good o)) (flip_is_gate o lt unseen)
      ∙ force_shows_from c order sound ordered s g output o lt
      ∙ ap (λ (b : Bool). b && flip_shows_from c s g o) gate_flips

  unknown_hides : (m o : ℕ) → o < length c.nets → good m ≡ Unknown → flip_shows_from c s m o ≡ false
  unknown_hides m o lt is =
      let same : flipped_from c s m o ≡ good o = ap (λ (x : Tri). values_of c s (force m (tri_not x)) o) is ∙ ap (λ (x : Tri). values_of c s (force m x) o) (sym is) ∙ sym (own_force c order sound ordered s m o lt) in
      ap (are_opposite (good o)) same ∙ not_opposite_itself (good o)

  -- an X that the gate senses makes its output X
  pub sensed_unknown : good n ≡ Unknown → senses kind (operand_values_from c s g) i ≡ true → good g ≡ Unknown
  sensed_unknown is sensed =
      good_is c order sound ordered s p g i v kind in_range at drives
      ∙ senses_unknown kind (operand_values_from c s g) i (count_fits c order sound ordered s p g i v kind in_range at drives)
      (omega (arith, length-map-range_with_len (seen c nothing_forced good) (net_at c g).first_pin (net_at c g).pin_count, stands.1))
      (first_value c order sound ordered s p g i v kind in_range at drives ∙ ap good net ∙ is) sensed

  -- where X hides what a flip of the gate shows, a flip of the net shows where the gate senses it
  pub sensed_shows : (shows : Bool) → (good g ≡ Unknown → shows ≡ false) → ((are_opposite (good n) (tri_not (good n)) && senses kind (operand_values_from c s g) i) && shows) ≡ (senses kind (operand_values_from c s g) i && shows)
  sensed_shows shows hides = go (good n) refl
    where
      hidden : good n ≡ Unknown → (b : Bool) → senses kind (operand_values_from c s g) i ≡ b → false ≡ (b && shows)
      hidden is false sensed = refl
      hidden is true sensed = sym (hides (sensed_unknown is sensed))

      go : (x : Tri) → good n ≡ x → ((are_opposite (good n) (tri_not (good n)) && senses kind (operand_values_from c s g) i) && shows) ≡ (senses kind (operand_values_from c s g) i && shows)
      go Zero is = rw is refl
      go One is = rw is refl
      go Unknown is = rw is (hidden is (senses kind (operand_values_from c s g) i) refl)

  -- it shows at another net where the gate senses its operand
  pub single_pin_shows_from : (o : ℕ) → o < length c.nets → o ≢ n → flip_shows_from c s n o ≡ (senses kind (operand_values_from c s g) i && flip_shows_from c s g o)
  single_pin_shows_from o lt unseen = shows_by_pin o lt unseen ∙ sensed_shows (flip_shows_from c s g o) (unknown_hides g o lt)

module _ (t : ScanTest) (sound : IsScanTest t) (order : List ℕ) (ordered : IsEvaluationOrder t.netlist order) (w : ℕ)
    (p n g i : ℕ) (kind : GateKind) (in_range : p < length t.netlist.pins) (net : (pin_at t.netlist p).net ≡ n) (at : (pin_at t.netlist p).place ≡ place.Operand g i) (drives : driver_of t.netlist g ≡ Gate kind)
    (one : (q : ℕ) → q < length t.netlist.pins → (pin_at t.netlist q).net ≡ n → q ≡ p) where
  -- no point observes the net
  pub unseen : (point : Point) → IsPoint t point → observed_net t point ≢ n
  unseen point is_point same =
      let here : point_pin t point ≡ p = one (point_pin t point) (point_pin-in_range t sound point is_point) (point_pin-net t sound point is_point ∙ same) in
      both_ways (place_is_point t (pin_at t.netlist p).place point)
      (ap (λ (x : PinPlace). place_is_point t x point) at ∙ ap (λ (d : Driver). operand_is_point t d g point) drives)
      (place_is_point-is t sound p point in_range is_point ∙ eq-eqb (point_pin t point) p here)

  -- in a pattern the flip shows at a point where the gate senses its operand
  pub single_pin_shows : (point : Point) → IsPoint t point → flip_shows_at t w n point ≡ (senses kind (operand_values t w g) i && flip_shows_at t w g point)
  single_pin_shows point is_point = single_pin_shows_from t.netlist order sound.circuit.netlist ordered (source_of t None w) p n g i kind in_range net at drives one
      (observed_net t point) (observed_net-in_range t sound point is_point) (unseen point is_point)
