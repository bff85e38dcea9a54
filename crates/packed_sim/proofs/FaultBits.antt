-- The bits of a word at which a fault predicts a fail, from the values that its lanes have now.
use Rattle.std.proofs.Common.{◌≡◌, ◌⊎◌, ℕ, ◌+◌, ◌*◌, ◌/◌, ◌%◌, ◌<◌, Bool, true, false, cond, eqb, ltb, ◌&&◌, ◌||◌, List, [], ◌∷◌, length, get_or, set, Option, None, Some, unwrap_or, refl, sym, ap, ◌∙◌, inl, inr, arith}
use Rattle.std.specs.Prelude.{Contains}
use Rattle.std.specs.List.{list_any}
use Rattle.std.proofs.lemmas.Bool.{cases_Bool, cases_eq, both_ways}
use Rattle.std.proofs.lemmas.List.{get_or-set_same, get_or-set_other}
use Rattle.std.specs.Int.{bit_at}
use Rattle.scan_model.specs.declared.values.Tri.{Tri}
use Rattle.scan_model.specs.declared.circuit.Driver.{Driver}
use Rattle.scan_model.specs.declared.circuit.Driver.TheVariants as driver
use Rattle.scan_model.specs.declared.circuit.PinPlace.{PinPlace}
use Rattle.scan_model.specs.declared.circuit.PinPlace.TheVariants as place
use Rattle.scan_model.specs.declared.parts.PatternKind.{PatternKind}
use Rattle.scan_model.specs.declared.parts.PatternKind.TheVariants.{Capture, Shift}
use Rattle.scan_model.specs.declared.parts.Point.{Point}
use Rattle.scan_model.specs.declared.fault.Stuck.{Stuck}
use Rattle.scan_model.specs.declared.fault.BridgeKind.{BridgeKind}
use Rattle.scan_model.specs.declared.fault.Fault.{Fault}
use Rattle.scan_model.specs.declared.fault.Fault.TheVariants as fault
use Rattle.scan_model.specs.Values.{are_opposite}
use Rattle.scan_model.specs.Faults.{stuck_value, bridged, forced_pin}
use Rattle.scan_model.specs.Netlist.{is_gate, is_gate_driver, driver_of, pin_at}
use Rattle.scan_model.specs.Walks.{IsEvaluationOrder}
use Rattle.scan_model.specs.Cone.{in_fan_in}
use Rattle.scan_model.specs.ScanTest.{ScanTest, IsScanTest, pattern_at, points_of, point_at}
use Rattle.scan_model.specs.NetValue.{values_of, source_of, good_value, net_value}
use Rattle.scan_model.specs.Universe.{universe}
use Rattle.scan_model.specs.Coverage.{bit_of}
use Rattle.scan_model.specs.Response.{predicts_fail, observed}
use Rattle.scan_model.specs.Suspect.{observed_net}
use Rattle.scan_model.specs.Force.{force, force_taken}
use Rattle.scan_model.specs.Masks.{IsLogic, point_pin, mask, flip_shows, straight, place_is_point, operand_is_point, place_nets}
use Rattle.scan_model.proofs.counting.LogicFaults.{loop_free}
use Rattle.scan_model.proofs.counting.Shown.{logic_keeps, point_pin-net, point_at-IsPoint, predicts_fail-is, observed_sees, observed_good}
use Rattle.scan_model.proofs.counting.Masks.{masks-capture, masks-shift}
use Rattle.lane_rows.specs.Planes.{Planes, held}
use Rattle.lane_rows.specs.GoodRows.{pattern_of, same_kind}
use Rattle.lane_rows.proofs.RowsOfTest.{captures_kind}
use Rattle.packed_sim.specs.declared.good.PackedGood.{PackedGood}
use Rattle.packed_sim.specs.Propagation.{AreApart}
use Rattle.packed_sim.specs.PackedParts.{BelongsTo, good_at, observed_at, captures}
use Rattle.packed_sim.proofs.Belonging.{good_is, observed_in_range}
use Rattle.packed_sim.proofs.Forcing.{two_of}

pub pattern_is : (word i : ℕ) → pattern_of (word / 8) (64 * (word % 8) + i) ≡ 64 * word + i
pattern_is word i = omega arith

pub lane_inside : (word i : ℕ) → i < 64 → 64 * (word % 8) + i < 512
lane_inside word i lt = omega arith

pub block_inside : (t : ScanTest) (g : PackedGood) (word : ℕ) → BelongsTo t g → 64 * word < length t.patterns → word / 8 < length g.rows
block_inside t g word belongs lt = omega (arith, belongs.rows.count)

-- one word more
pub words_more : (P : ℕ → ℕ → Bool) (out : List ℕ) (n x : ℕ) → n < length out → ((k i : ℕ) → k < n → i < 64 → eqb (bit_at (get_or out k 0) i) 1 ≡ P k i) → ((i : ℕ) → i < 64 → eqb (bit_at x i) 1 ≡ P n i)
    → (k i : ℕ) → k < n + 1 → i < 64 → eqb (bit_at (get_or (set out n x) k 0) i) 1 ≡ P k i
words_more P out n x inside so_far here k i lt i_lt = elim (cases_eq k n) [
  | inl same ↦ ap (λ (m : ℕ). eqb (bit_at (get_or (set out n x) m 0) i) 1) same ∙ ap (λ (v : ℕ). eqb (bit_at v i) 1) (get_or-set_same out n x 0 inside) ∙ here i i_lt ∙ ap (λ (m : ℕ). P m i) (sym same)
  | inr other ↦ ap (λ (v : ℕ). eqb (bit_at v i) 1) (get_or-set_other out n k x 0 other) ∙ so_far k i (omega arith) i_lt
]

pub kinds : (k : PatternKind) → (k ≡ Capture) ⊎ (k ≡ Shift)
kinds Capture = inl refl
kinds Shift = inr refl

pub and_false : (b : Bool) → (b && false) ≡ false
and_false true = refl
and_false false = refl

module _ (t : ScanTest) (sound : IsScanTest t) (order : List ℕ) (ordered : IsEvaluationOrder t.netlist order) where
  -- a logic fault predicts fails in patterns that capture alone
  pub logic_bit : (f : Fault) → IsLogic f → (w k : ℕ) → k < length (points_of t) → (x : Bool) → (captures t w ≡ true → x ≡ predicts_fail t f (bit_of w k))
      → (captures t w && x) ≡ (ltb w (length t.patterns) && predicts_fail t f (bit_of w k))
  logic_bit f logic w k lt x agree =
      let P = predicts_fail t f (bit_of w k) in
      let kind = (pattern_at t w).kind in
      elim (cases_Bool (ltb w (length t.patterns))) [
        | inl there ↦ elim (kinds kind) [
          | inl capture ↦
              let is : captures t w ≡ true = ap (λ (b : Bool). b && same_kind Capture kind) there ∙ ap (same_kind Capture) capture in
              ap (λ (b : Bool). b && x) is ∙ agree is ∙ sym (ap (λ (b : Bool). b && P) there)
          | inr shift ↦
              let no : captures t w ≡ false = ap (λ (k' : PatternKind). ltb w (length t.patterns) && same_kind Capture k') shift ∙ and_false (ltb w (length t.patterns)) in
              ap (λ (b : Bool). b && x) no ∙ sym (ap (λ (b : Bool). ltb w (length t.patterns) && b) (masks-shift t sound order ordered w f k logic lt shift) ∙ and_false (ltb w (length t.patterns)))
        ]
        | inr gone ↦ ap (λ (b : Bool). (b && same_kind Capture kind) && x) gone ∙ sym (ap (λ (b : Bool). b && P) gone)
      ]

  -- where a fault forces no pin, what a net shows is what the fault predicts
  pub plain_shows : (f : Fault) → IsLogic f → ((p : ℕ) → forced_pin (Some f) p ≡ None) → (w k : ℕ) → k < length (points_of t) → (pattern_at t w).kind ≡ Capture
      → are_opposite (good_value t w (observed_at t k)) (net_value t (Some f) w (observed_at t k)) ≡ predicts_fail t f (bit_of w k)
  plain_shows f logic pins w k lt capture =
      let p = point_at t k in
      let is_point = point_at-IsPoint t sound k lt in
      let seen_is : observed t (Some f) w p ≡ net_value t (Some f) w (observed_net t p) = observed_sees t sound f w p is_point capture (logic_keeps f p logic)
      ∙ ap (λ (o : Option Tri). unwrap_or o (net_value t (Some f) w (pin_at t.netlist (point_pin t p)).net)) (pins (point_pin t p))
      ∙ ap (net_value t (Some f) w) (point_pin-net t sound p is_point) in
      sym (predicts_fail-is t sound f w k lt ∙ ap (λ (v : Tri). are_opposite v (observed t (Some f) w p)) (observed_good t sound w p is_point capture) ∙ ap (are_opposite (good_value t w (observed_net t p))) seen_is)

  module _ (g : PackedGood) (belongs : BelongsTo t g) where
    -- the bit of a point whose net has its value under the fault
    pub forced_bit : (f : Fault) → IsLogic f → ((p : ℕ) → forced_pin (Some f) p ≡ None) → (word k i : ℕ) → 64 * word < length t.patterns → k < length (points_of t) → i < 64 → (now : Tri)
        → (captures t (pattern_of (word / 8) (64 * (word % 8) + i)) ≡ true → now ≡ net_value t (Some f) (pattern_of (word / 8) (64 * (word % 8) + i)) (observed_at t k))
        → (captures t (64 * word + i) && are_opposite (good_at g (word / 8) (64 * (word % 8) + i) (observed_at t k)) now) ≡ (ltb (64 * word + i) (length t.patterns) && predicts_fail t f (bit_of (64 * word + i) k))
    forced_bit f logic pins word k i lt in_points i_lt now is =
        let b = word / 8 in
        let j = 64 * (word % 8) + i in
        let w = pattern_of b j in
        let same : w ≡ 64 * word + i = pattern_is word i in
        logic_bit f logic (64 * word + i) k in_points (are_opposite (good_at g b j (observed_at t k)) now) (λ captured.
        let captured_w : captures t w ≡ true = ap (captures t) same ∙ captured in
        ap (λ (v : Tri). are_opposite v now) (good_is t g belongs b j (observed_at t k) (block_inside t g word belongs lt) (lane_inside word i i_lt) (observed_in_range t sound g belongs.built k in_points) captured_w)
        ∙ ap (are_opposite (good_value t w (observed_at t k))) (is captured_w)
        ∙ plain_shows f logic pins w k in_points (captures_kind t w captured_w)
        ∙ ap (λ (x : ℕ). predicts_fail t f (bit_of x k)) same)

    pub stem_bit : (net : ℕ) (v : Stuck) (word k i : ℕ) → 64 * word < length t.patterns → k < length (points_of t) → i < 64 → (row : Planes) (now : Tri)
        → held row (64 * (word % 8) + i) ≡ stuck_value v
        → (captures t (pattern_of (word / 8) (64 * (word % 8) + i)) ≡ true → now ≡ values_of t.netlist (source_of t None (pattern_of (word / 8) (64 * (word % 8) + i))) (force net (held row (64 * (word % 8) + i))) (observed_at t k))
        → (captures t (64 * word + i) && are_opposite (good_at g (word / 8) (64 * (word % 8) + i) (observed_at t k)) now) ≡ (ltb (64 * word + i) (length t.patterns) && predicts_fail t (fault.Stem net v) (bit_of (64 * word + i) k))
    stem_bit net v word k i lt in_points i_lt row now row_is is = forced_bit (fault.Stem net v) tt (λ p. refl) word k i lt in_points i_lt now
        (λ captured. is captured ∙ ap (λ (x : Tri). values_of t.netlist (source_of t None (pattern_of (word / 8) (64 * (word % 8) + i))) (force net x) (observed_at t k)) row_is)

    pub bridge_bit : (a b : ℕ) (kind : BridgeKind) (word k i : ℕ) → 64 * word < length t.patterns → k < length (points_of t) → i < 64 → (row : Planes) (now : Tri)
        → (captures t (pattern_of (word / 8) (64 * (word % 8) + i)) ≡ true → held row (64 * (word % 8) + i) ≡ bridged kind (good_value t (pattern_of (word / 8) (64 * (word % 8) + i)) a) (good_value t (pattern_of (word / 8) (64 * (word % 8) + i)) b))
        → (captures t (pattern_of (word / 8) (64 * (word % 8) + i)) ≡ true → now ≡ values_of t.netlist (source_of t None (pattern_of (word / 8) (64 * (word % 8) + i))) (force_taken kind a b (held row (64 * (word % 8) + i))) (observed_at t k))
        → (captures t (64 * word + i) && are_opposite (good_at g (word / 8) (64 * (word % 8) + i) (observed_at t k)) now) ≡ (ltb (64 * word + i) (length t.patterns) && predicts_fail t (fault.Bridge a b kind) (bit_of (64 * word + i) k))
    bridge_bit a b kind word k i lt in_points i_lt row now row_is is = forced_bit (fault.Bridge a b kind) tt (λ p. refl) word k i lt in_points i_lt now
        (λ captured. is captured ∙ ap (λ (x : Tri). values_of t.netlist (source_of t None (pattern_of (word / 8) (64 * (word % 8) + i))) (force_taken kind a b x) (observed_at t k)) (row_is captured))

  pub bridge_apart : (a b : ℕ) (kind : BridgeKind) → Contains (universe t) (fault.Bridge a b kind) → AreApart t.netlist (a ∷ b ∷ [])
  bridge_apart a b kind in' m n m_in n_in gate inside =
      let free = loop_free t (fault.Bridge a b kind) sound in' in
      elim (two_of a b m m_in) [
        | inl m_a ↦ elim (two_of a b n n_in) [
          | inl n_a ↦ m_a ∙ sym n_a
          | inr n_b ↦ absurd (both_ways (in_fan_in t.netlist a b) free.1 (ap (λ (x : ℕ). in_fan_in t.netlist x b) (sym m_a) ∙ ap (in_fan_in t.netlist m) (sym n_b) ∙ inside))
        ]
        | inr m_b ↦ elim (two_of a b n n_in) [
          | inl n_a ↦ absurd (both_ways (in_fan_in t.netlist b a) free.0 (ap (λ (x : ℕ). in_fan_in t.netlist x a) (sym m_b) ∙ ap (in_fan_in t.netlist m) (sym n_a) ∙ inside))
          | inr n_b ↦ m_b ∙ sym n_b
        ]
      ]

  -- ---- branches

  no_operand : (n : ℕ) (p : Point) (x : Driver) → is_gate_driver x ≡ true → operand_is_point t x n p ≡ false
  no_operand n p driver.Input e = refl
  no_operand n p driver.Flop e = absurd cc
  no_operand n p (driver.Gate kind) e = refl

  or_false : (b : Bool) → (b || false) ≡ b
  or_false true = refl
  or_false false = refl

  pub gate_nets : (q n i : ℕ) → (pin_at t.netlist q).place ≡ place.Operand n i → is_gate t.netlist n ≡ true → place_nets t (pin_at t.netlist q).place ≡ n ∷ []
  gate_nets q n i at gate = ap (place_nets t) at ∙ ap (λ (b : Bool). cond b (n ∷ []) []) gate

  -- a stuck operand of a gate shows where the gate is flipped and the flip shows
  pub gate_predicts : (q : ℕ) (v : Stuck) (n i w k : ℕ) → Contains (universe t) (fault.Branch q v) → k < length (points_of t) → (pattern_at t w).kind ≡ Capture
      → (pin_at t.netlist q).place ≡ place.Operand n i → is_gate t.netlist n ≡ true
      → predicts_fail t (fault.Branch q v) (bit_of w k) ≡ (mask t (fault.Branch q v) w n && flip_shows t w n k)
  gate_predicts q v n i w k in' lt capture at gate =
      let shown = λ (m : ℕ). mask t (fault.Branch q v) w m && flip_shows t w m k in
      let opposite = are_opposite (good_value t w (pin_at t.netlist q).net) (stuck_value v) in
      let no_point : place_is_point t (pin_at t.netlist q).place (point_at t k) ≡ false = ap (λ (x : PinPlace). place_is_point t x (point_at t k)) at ∙ no_operand n (point_at t k) (driver_of t.netlist n) gate in
      masks-capture t sound order ordered w (fault.Branch q v) k in' tt lt capture
      ∙ ap (λ (ns : List ℕ). list_any shown ns || straight t (fault.Branch q v) w k) (gate_nets q n i at gate)
      ∙ ap (λ (b : Bool). (shown n || false) || (b && opposite)) no_point
      ∙ or_false (shown n || false)
      ∙ or_false (shown n)

  no_nets : (x : PinPlace) → ((n i : ℕ) → x ≡ place.Operand n i → is_gate t.netlist n ≡ false) → place_nets t x ≡ []
  no_nets (place.Output k) no_gate = refl
  no_nets (place.Operand n i) no_gate = ap (λ (b : Bool). cond b (n ∷ []) []) (no_gate n i refl)

  pub straight_predicts : (q : ℕ) (v : Stuck) (w k : ℕ) → Contains (universe t) (fault.Branch q v) → k < length (points_of t) → (pattern_at t w).kind ≡ Capture
      → ((n i : ℕ) → (pin_at t.netlist q).place ≡ place.Operand n i → is_gate t.netlist n ≡ false)
      → predicts_fail t (fault.Branch q v) (bit_of w k) ≡ (place_is_point t (pin_at t.netlist q).place (point_at t k) && are_opposite (good_value t w (pin_at t.netlist q).net) (stuck_value v))
  straight_predicts q v w k in' lt capture no_gate =
      masks-capture t sound order ordered w (fault.Branch q v) k in' tt lt capture
      ∙ ap (λ (ns : List ℕ). list_any (λ n. mask t (fault.Branch q v) w n && flip_shows t w n k) ns || straight t (fault.Branch q v) w k) (no_nets (pin_at t.netlist q).place no_gate)

  pub gate_bit : (q : ℕ) (v : Stuck) (n i word k b : ℕ) → b < 64 → k < length (points_of t) → Contains (universe t) (fault.Branch q v)
      → (pin_at t.netlist q).place ≡ place.Operand n i → is_gate t.netlist n ≡ true → (lane_set x : Bool)
      → (captures t (pattern_of (word / 8) (64 * (word % 8) + b)) ≡ true → lane_set ≡ mask t (fault.Branch q v) (pattern_of (word / 8) (64 * (word % 8) + b)) n)
      → (captures t (pattern_of (word / 8) (64 * (word % 8) + b)) ≡ true → x ≡ (lane_set && flip_shows t (pattern_of (word / 8) (64 * (word % 8) + b)) n k))
      → (captures t (64 * word + b) && x) ≡ (ltb (64 * word + b) (length t.patterns) && predicts_fail t (fault.Branch q v) (bit_of (64 * word + b) k))
  gate_bit q v n i word k b b_lt in_points in' at gate lane_set x masks shows =
      let w = pattern_of (word / 8) (64 * (word % 8) + b) in
      let same : w ≡ 64 * word + b = pattern_is word b in
      logic_bit (fault.Branch q v) tt (64 * word + b) k in_points x (λ captured.
      let captured_w : captures t w ≡ true = ap (captures t) same ∙ captured in
      shows captured_w ∙ ap (λ (y : Bool). y && flip_shows t w n k) (masks captured_w)
      ∙ sym (gate_predicts q v n i w k in' in_points (captures_kind t w captured_w) at gate)
      ∙ ap (λ (z : ℕ). predicts_fail t (fault.Branch q v) (bit_of z k)) same)

  pub straight_bit : (q : ℕ) (v : Stuck) (w k : ℕ) → k < length (points_of t) → Contains (universe t) (fault.Branch q v)
      → ((n i : ℕ) → (pin_at t.netlist q).place ≡ place.Operand n i → is_gate t.netlist n ≡ false)
      → (captures t w && (place_is_point t (pin_at t.netlist q).place (point_at t k) && are_opposite (good_value t w (pin_at t.netlist q).net) (stuck_value v))) ≡ (ltb w (length t.patterns) && predicts_fail t (fault.Branch q v) (bit_of w k))
  straight_bit q v w k in_points in' no_gate =
      logic_bit (fault.Branch q v) tt w k in_points (place_is_point t (pin_at t.netlist q).place (point_at t k) && are_opposite (good_value t w (pin_at t.netlist q).net) (stuck_value v))
      (λ captured. sym (straight_predicts q v w k in' in_points (captures_kind t w captured) no_gate))

pub and_when : (b x y : Bool) → (b ≡ true → x ≡ y) → (b && x) ≡ (b && y)
and_when true x y same = same refl
and_when false x y same = refl

pub and_swap : (a b d : Bool) → (a && (b && d)) ≡ (b && (a && d))
and_swap true true d = refl
and_swap true false d = refl
and_swap false true d = refl
and_swap false false d = refl
