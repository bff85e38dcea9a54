-- A logic fault predicts a fail where its mask lets one flip show, or its pin goes straight to the point.
use Rattle.std.proofs.Common.{◌≡◌, ◌≢◌, ◌⊎◌, ℕ, zero, suc, ◌+◌, ◌<◌, Bool, true, false, cond, eqb, ◌&&◌, ◌||◌, List, [], ◌∷◌, length, map, Option, Some, None, refl, sym, ap, subst, ◌∙◌, inl, inr, arith}
use Rattle.std.specs.Prelude.{Contains}
use Rattle.std.specs.List.{range_with_len, list_any}
use Rattle.std.proofs.lemmas.Bool.{cases_Bool, cases_eq, eq-eqb, eqb-true, ne_eqb, both_ways, and_from, and_left, and_right, or_cases}
use mathlib.Core.Path.{fun_ext}
use Rattle.scan_model.specs.declared.values.Tri.{Tri}
use Rattle.scan_model.specs.declared.circuit.Driver.{Driver}
use Rattle.scan_model.specs.declared.circuit.Driver.TheVariants.{Input, Flop, Gate}
use Rattle.scan_model.specs.declared.circuit.GateKind.{GateKind}
use Rattle.scan_model.specs.declared.circuit.PinPlace.{PinPlace}
use Rattle.scan_model.specs.declared.circuit.PinPlace.TheVariants as place
use Rattle.scan_model.specs.declared.parts.Point.{Point}
use Rattle.scan_model.specs.declared.parts.PatternKind.TheVariants.{Capture, Shift}
use Rattle.scan_model.specs.declared.fault.Stuck.{Stuck}
use Rattle.scan_model.specs.declared.fault.BridgeKind.{BridgeKind}
use Rattle.scan_model.specs.declared.fault.BridgeKind.TheVariants.{Dominant, WiredAnd, WiredOr, DominantAnd, DominantOr}
use Rattle.scan_model.specs.declared.fault.Fault.{Fault}
use Rattle.scan_model.specs.declared.fault.Fault.TheVariants as fault
use Rattle.scan_model.specs.Values.{are_opposite, tri_not, gate_value}
use Rattle.scan_model.specs.Netlist.{IsNetlist, IsPlacedAt, is_gate, is_gate_driver, driver_of, net_at, pin_at, operands}
use Rattle.scan_model.specs.Walks.{IsEvaluationOrder}
use Rattle.scan_model.specs.ScanTest.{ScanTest, IsScanTest, IsPoint, HasSite, pattern_at, points_of, point_at}
use Rattle.scan_model.specs.Faults.{stuck_value, bridged, takes}
use Rattle.scan_model.specs.Cone.{in_fan_in}
use Rattle.scan_model.specs.NetValue.{Forced, seen, driven, values_of, source_of, nothing_forced, good_value, net_value, pin_value}
use Rattle.scan_model.specs.Universe.{universe}
use Rattle.scan_model.specs.Coverage.{bit_of}
use Rattle.scan_model.specs.Response.{observed, predicts_fail}
use Rattle.scan_model.specs.Suspect.{observed_net}
use Rattle.scan_model.proofs.NetValues.{values_of-is}
use Rattle.scan_model.proofs.Sites.{site_of}
use Rattle.scan_model.proofs.FanSweeps.{in_own}
use Rattle.scan_model.specs.Force.{force}
use Rattle.scan_model.specs.Masks.{point_pin, flipped, flip_shows_at, flip_shows, is_operand_of, forced_output, mask, operand_is_point, place_is_point, straight_at, straight, place_nets, touched_nets, IsLogic}
use Rattle.scan_model.proofs.counting.OneSite.{one_site, force_two, one_of_two}
use Rattle.scan_model.proofs.counting.Flips.{force_shows_from, unread_is_good, gate_shows_from}
use Rattle.scan_model.proofs.counting.Shown.{not_opposite_itself, logic_keeps, point_pin-net, observed_net-in_range, point_at-IsPoint, predicts_fail-is, observed_sees, observed_good, shifted_same, place_is_point-is}
use Rattle.scan_model.proofs.counting.LogicFaults.{IsLoopFree, loop_free}

or_false : (b : Bool) → (b || false) ≡ b
or_false true = refl
or_false false = refl

abbrev place_owner : PinPlace → ℕ
place_owner (place.Operand n i) = n
place_owner (place.Output k) = 0

abbrev is_operand_place : PinPlace → Bool
is_operand_place (place.Operand n i) = true
is_operand_place (place.Output k) = false

module _ (t : ScanTest) (sound : IsScanTest t) (order : List ℕ) (ordered : IsEvaluationOrder t.netlist order) (w : ℕ) where
  abbrev s : ℕ → Tri
  s = source_of t None w

  abbrev good : ℕ → Tri
  good = good_value t w

  net_sound : IsNetlist t.netlist
  net_sound = sound.circuit.netlist

  -- where one flip of a touched net shows, or the pin is the point's
  abbrev pub predicted : Fault → Point → Bool
  predicted f p = list_any (λ n. mask t f w n && flip_shows_at t w n p) (touched_nets t f) || straight_at t f w p

  -- a forced net is flipped, or nothing shows
  force_shows : (m : ℕ) (x : Tri) (o : ℕ) → o < length t.netlist.nets → are_opposite (good o) (values_of t.netlist s (force m x) o) ≡ (are_opposite (good m) x && are_opposite (good o) (flipped t w m o))
  force_shows = force_shows_from t.netlist order net_sound ordered s

  -- what a point shows of a logic fault
  at_pin : (f : Fault) (p : Point) → IsPoint t p → (pattern_at t w).kind ≡ Capture → IsLogic f
      → are_opposite (observed t None w p) (observed t (Some f) w p) ≡ are_opposite (good (observed_net t p)) (pin_value t (Some f) w (point_pin t p))
  at_pin f p is_point captures logic = rw (observed_good t sound w p is_point captures, observed_sees t sound f w p is_point captures (logic_keeps f p logic)) refl

  -- ---- stems

  stem_shows : (m : ℕ) (v : Stuck) (p : Point) → IsPoint t p → are_opposite (good (observed_net t p)) (pin_value t (Some (fault.Stem m v)) w (point_pin t p)) ≡ predicted (fault.Stem m v) p
  stem_shows m v p is_point =
      ap (λ (o : ℕ). are_opposite (good (observed_net t p)) (values_of t.netlist s (force m (stuck_value v)) o)) (point_pin-net t sound p is_point)
      ∙ force_shows m (stuck_value v) (observed_net t p) (observed_net-in_range t sound p is_point)
      ∙ sym (rw (eq-eqb m m refl) (or_false ((are_opposite (good m) (stuck_value v) && flip_shows_at t w m p) || false) ∙ or_false (are_opposite (good m) (stuck_value v) && flip_shows_at t w m p)))

  -- ---- bridges

  bridge_other : (a b : ℕ) (x : Tri) → force_two a b x ≡ force_two b a x
  bridge_other a b x = ap (λ (f : ℕ → Option Tri). let F : Forced = record { net = f; pin = λ p. None } in F) (fun_ext (λ n. ap (λ (c : Bool). cond c (Some x) None) (or_comm (eqb n a) (eqb n b))))
    where
      or_comm : (x y : Bool) → (x || y) ≡ (y || x)
      or_comm true true = refl
      or_comm true false = refl
      or_comm false true = refl
      or_comm false false = refl

  -- the nets have the values of net n alone forced to x, and of the touched nets the fault may flip n alone
  pub record IsForceOf (f : Fault) (n : ℕ) (x : Tri) : Type 0 where
    pub values : (o : ℕ) → o < length t.netlist.nets → net_value t (Some f) w o ≡ values_of t.netlist s (force n x) o
    pub masks : (shows : ℕ → Bool) → list_any (λ m. mask t f w m && shows m) (touched_nets t f) ≡ (are_opposite (good n) x && shows n)

  module _ (a b : ℕ) (kind : BridgeKind) (site : (a < length t.netlist.nets) × (b < length t.netlist.nets)) (free : IsLoopFree t (fault.Bridge a b kind)) where
    abbrev x : Tri
    x = bridged kind (good a) (good b)

    abbrev A : Bool
    A = are_opposite (good a) x

    abbrev B : Bool
    B = are_opposite (good b) x

    or_true : (y : Bool) → (y || true) ≡ true
    or_true true = refl
    or_true false = refl

    -- the forced nets, by who takes the value
    abbrev forced_as : (Bool → Bool → Bool) → Forced
    forced_as g = record { net = λ n. cond (g (eqb n a) (eqb n b)) (Some x) None; pin = λ q. None }

    same_force : (g : Bool → Bool → Bool) → ((y z : Bool) → takes kind y z ≡ g y z) → forced_as (takes kind) ≡ forced_as g
    same_force g same = ap (λ (f : ℕ → Option Tri). let F : Forced = record { net = f; pin = λ q. None } in F) (fun_ext (λ n. ap (λ (c : Bool). cond c (Some x) None) (same (eqb n a) (eqb n b))))

    values_as : (g : Bool → Bool → Bool) → ((y z : Bool) → takes kind y z ≡ g y z) → (o : ℕ) → net_value t (Some (fault.Bridge a b kind)) w o ≡ values_of t.netlist s (forced_as g) o
    values_as g same o = ap (λ (F : Forced). values_of t.netlist s F o) (same_force g same)

    -- where both nets take the value it is the fault-free one of one of them
    both_take : ((y z : Bool) → takes kind y z ≡ (y || z)) → (x ≡ good a) ⊎ (x ≡ good b) → (n : ℕ) × IsForceOf (fault.Bridge a b kind) n x
    both_take same (inl is) =
        let off : A ≡ false = ap (are_opposite (good a)) is ∙ not_opposite_itself (good a) in (
          b,
          record {
            values = λ o lt. values_as (λ y z. y || z) same o ∙ one_of_two t.netlist order net_sound ordered s a b x site.0 is free.0 o lt;
            masks = λ shows. rw (same (eqb a a) (eqb a b), same (eqb b a) (eqb b b), eq-eqb a a refl, eq-eqb b b refl, or_true (eqb b a), off) (or_false (B && shows b));
          },
        )
    both_take same (inr is) =
        let off : B ≡ false = ap (are_opposite (good b)) is ∙ not_opposite_itself (good b) in (
          a,
          record {
            values = λ o lt. values_as (λ y z. y || z) same o ∙ ap (λ (F : Forced). values_of t.netlist s F o) (bridge_other a b x) ∙ one_of_two t.netlist order net_sound ordered s b a x site.1 is free.1 o lt;
            masks = λ shows. rw (same (eqb a a) (eqb a b), same (eqb b a) (eqb b b), eq-eqb a a refl, eq-eqb b b refl, or_true (eqb b a), off) (or_false (A && shows a));
          },
        )

    apart : a ≢ b
    apart same = both_ways (in_fan_in t.netlist b a) free.0 (ap (in_fan_in t.netlist b) same ∙ in_own t.netlist b)

    second_takes : ((y z : Bool) → takes kind y z ≡ z) → (n : ℕ) × IsForceOf (fault.Bridge a b kind) n x
    second_takes same = (
      b,
      record {
        values = λ o lt. values_as (λ y z. z) same o;
        masks = λ shows. rw (same (eqb a a) (eqb a b), same (eqb b a) (eqb b b), ne_eqb a b apart, eq-eqb b b refl) (or_false (B && shows b));
      },
    )

    bridge_by : (k : BridgeKind) → k ≡ kind → (n : ℕ) × IsForceOf (fault.Bridge a b kind) n x
    bridge_by Dominant is = both_take (λ y z. ap (λ (k : BridgeKind). takes k y z) (sym is)) (one_site kind (good a) (good b))
    bridge_by WiredAnd is = both_take (λ y z. ap (λ (k : BridgeKind). takes k y z) (sym is)) (one_site kind (good a) (good b))
    bridge_by WiredOr is = both_take (λ y z. ap (λ (k : BridgeKind). takes k y z) (sym is)) (one_site kind (good a) (good b))
    bridge_by DominantAnd is = second_takes (λ y z. ap (λ (k : BridgeKind). takes k y z) (sym is))
    bridge_by DominantOr is = second_takes (λ y z. ap (λ (k : BridgeKind). takes k y z) (sym is))

    -- a bridge forces one net
    pub bridge_is_force : (n : ℕ) × IsForceOf (fault.Bridge a b kind) n x
    bridge_is_force = bridge_by kind refl

    bridge_shows : (p : Point) → IsPoint t p → are_opposite (good (observed_net t p)) (pin_value t (Some (fault.Bridge a b kind)) w (point_pin t p)) ≡ predicted (fault.Bridge a b kind) p
    bridge_shows p is_point =
        let o = observed_net t p in
        let lt = observed_net-in_range t sound p is_point in
        let one = bridge_is_force in
        ap (λ (q : ℕ). are_opposite (good o) (net_value t (Some (fault.Bridge a b kind)) w q)) (point_pin-net t sound p is_point)
        ∙ ap (are_opposite (good o)) (one.1.values o lt)
        ∙ force_shows one.0 x o lt
        ∙ sym (one.1.masks (λ m. flip_shows_at t w m p))
        ∙ sym (or_false (list_any (λ m. mask t (fault.Bridge a b kind) w m && flip_shows_at t w m p) (touched_nets t (fault.Bridge a b kind))))

  -- ---- branches

  branch_straight : (p : ℕ) (v : Stuck) (point : Point) → p < length t.netlist.pins → IsPoint t point → ((n i : ℕ) → (pin_at t.netlist p).place ≡ place.Operand n i → is_gate t.netlist n ≡ false)
      → are_opposite (good (observed_net t point)) (pin_value t (Some (fault.Branch p v)) w (point_pin t point)) ≡ (place_is_point t (pin_at t.netlist p).place point && are_opposite (good (pin_at t.netlist p).net) (stuck_value v))
  branch_straight p v point site is_point unread = rw (place_is_point-is t sound p point site is_point) (elim (cases_eq (point_pin t point) p) [
    | inl same ↦ rw (eq-eqb (point_pin t point) p same) (ap (λ (o : ℕ). are_opposite (good o) (stuck_value v)) (sym (point_pin-net t sound point is_point) ∙ ap (λ (q : ℕ). (pin_at t.netlist q).net) same))
    | inr other ↦ rw (ne_eqb (point_pin t point) p other)
        (ap (λ (o : ℕ). are_opposite (good (observed_net t point)) (net_value t (Some (fault.Branch p v)) w o)) (point_pin-net t sound point is_point)
        ∙ ap (are_opposite (good (observed_net t point))) (unread_is_good t.netlist order net_sound ordered s p (stuck_value v) unread (observed_net t point) (observed_net-in_range t sound point is_point))
        ∙ not_opposite_itself (good (observed_net t point)))
  ])

  branch_gate : (p : ℕ) (v : Stuck) (point : Point) (n i : ℕ) (kind : GateKind) → p < length t.netlist.pins → n < length t.netlist.nets → IsPoint t point → (pin_at t.netlist p).place ≡ place.Operand n i → driver_of t.netlist n ≡ Gate kind
      → are_opposite (good (observed_net t point)) (pin_value t (Some (fault.Branch p v)) w (point_pin t point)) ≡ (are_opposite (good n) (forced_output t w (fault.Branch p v) n) && flip_shows_at t w n point)
  branch_gate p v point n i kind site in' is_point at drives =
      let o = observed_net t point in
      let lt = observed_net-in_range t sound point is_point in
      let apart : eqb (point_pin t point) p ≡ false = sym (place_is_point-is t sound p point site is_point) ∙ ap (λ (x : PinPlace). place_is_point t x point) at ∙ ap (λ (d : Driver). operand_is_point t d n point) drives in
      rw apart
      (ap (λ (q : ℕ). are_opposite (good o) (net_value t (Some (fault.Branch p v)) w q)) (point_pin-net t sound point is_point)
      ∙ gate_shows_from t.netlist order net_sound ordered s p n i v kind o in' at drives lt)

  branch_shows : (p : ℕ) (v : Stuck) (point : Point) → p < length t.netlist.pins → IsPoint t point
      → are_opposite (good (observed_net t point)) (pin_value t (Some (fault.Branch p v)) w (point_pin t point)) ≡ predicted (fault.Branch p v) point
  branch_shows p v point site is_point = go (pin_at t.netlist p).place refl
    where
      leaf : (n i : ℕ) → (pin_at t.netlist p).place ≡ place.Operand n i → is_gate t.netlist n ≡ false
          → are_opposite (good (observed_net t point)) (pin_value t (Some (fault.Branch p v)) w (point_pin t point)) ≡ predicted (fault.Branch p v) point
      leaf n i at no_gate =
          branch_straight p v point site is_point (λ m j is. ap (λ (x : PinPlace). is_gate t.netlist (place_owner x)) (sym is ∙ at) ∙ no_gate)
          ∙ ap (λ (xs : List ℕ). list_any (λ n. mask t (fault.Branch p v) w n && flip_shows_at t w n point) xs || straight_at t (fault.Branch p v) w point)
          (sym (ap (place_nets t) at ∙ ap (λ (g : Bool). cond g (n ∷ []) []) no_gate))

      at_operand : (n i : ℕ) → (pin_at t.netlist p).place ≡ place.Operand n i → (d : Driver) → driver_of t.netlist n ≡ d
          → are_opposite (good (observed_net t point)) (pin_value t (Some (fault.Branch p v)) w (point_pin t point)) ≡ predicted (fault.Branch p v) point
      at_operand n i at Input drives = leaf n i at (ap is_gate_driver drives)
      at_operand n i at Flop drives = leaf n i at (ap is_gate_driver drives)
      at_operand n i at (Gate kind) drives =
          let stands = subst (IsPlacedAt t.netlist p) at (net_sound.pin_places p site) in
          let nets : place_nets t (pin_at t.netlist p).place ≡ n ∷ [] = ap (place_nets t) at ∙ ap (λ (g : Bool). cond g (n ∷ []) []) (ap is_gate_driver drives) in
          let off : place_is_point t (pin_at t.netlist p).place point ≡ false = ap (λ (x : PinPlace). place_is_point t x point) at ∙ ap (λ (d : Driver). operand_is_point t d n point) drives in
          let own : is_operand_of n (pin_at t.netlist p).place ≡ true = ap (is_operand_of n) at ∙ eq-eqb n n refl in
          let shown = are_opposite (good n) (forced_output t w (fault.Branch p v) n) && flip_shows_at t w n point in
          branch_gate p v point n i kind site stands.0 is_point at drives ∙ sym (rw (nets, off, own) (or_false (shown || false) ∙ or_false shown))

      go : (x : PinPlace) → (pin_at t.netlist p).place ≡ x → are_opposite (good (observed_net t point)) (pin_value t (Some (fault.Branch p v)) w (point_pin t point)) ≡ predicted (fault.Branch p v) point
      go (place.Output k) at =
          branch_straight p v point site is_point (λ n i is. absurd (let e : true ≡ false = ap is_operand_place (sym is ∙ at) in cc))
          ∙ ap (λ (xs : List ℕ). list_any (λ n. mask t (fault.Branch p v) w n && flip_shows_at t w n point) xs || straight_at t (fault.Branch p v) w point) (sym (ap (place_nets t) at))
      go (place.Operand n i) at = at_operand n i at (driver_of t.netlist n) refl

  -- ---- the theorem

  shows : (f : Fault) (p : Point) → IsPoint t p → HasSite t f → IsLoopFree t f → IsLogic f → are_opposite (good (observed_net t p)) (pin_value t (Some f) w (point_pin t p)) ≡ predicted f p
  shows (fault.Stem m v) p is_point site free logic = stem_shows m v p is_point
  shows (fault.Branch q v) p is_point site free logic = branch_shows q v p site is_point
  shows (fault.Bridge a b kind) p is_point site free logic = bridge_shows a b kind site free p is_point
  shows (fault.Cell h c kind) p is_point site free logic = absurd logic

  pub masks-capture : (f : Fault) (k : ℕ) → Contains (universe t) f → IsLogic f → k < length (points_of t) → (pattern_at t w).kind ≡ Capture
      → predicts_fail t f (bit_of w k) ≡ (list_any (λ n. mask t f w n && flip_shows t w n k) (touched_nets t f) || straight t f w k)
  masks-capture f k in' logic lt captures =
      let is_point = point_at-IsPoint t sound k lt in
      predicts_fail-is t sound f w k lt ∙ at_pin f (point_at t k) is_point captures logic ∙ shows f (point_at t k) is_point (site_of t f sound in') (loop_free t f sound in') logic

  pub masks-shift : (f : Fault) (k : ℕ) → IsLogic f → k < length (points_of t) → (pattern_at t w).kind ≡ Shift → predicts_fail t f (bit_of w k) ≡ false
  masks-shift f k logic lt shifts =
      predicts_fail-is t sound f w k lt ∙ ap (are_opposite (observed t None w (point_at t k))) (shifted_same t sound f w (point_at t k) shifts (logic_keeps f (point_at t k) logic)) ∙ not_opposite_itself (observed t None w (point_at t k))

and_first : (x y : Bool) → (x && y) ≡ true → x ≡ true
and_first true y e = refl
and_first false y e = e

-- the two masks of a bridge are never true together
pub masks_apart : (t : ScanTest) (w a b : ℕ) (kind : BridgeKind) → (mask t (fault.Bridge a b kind) w a && mask t (fault.Bridge a b kind) w b) ≡ false
masks_apart t w a b kind = go (one_site kind (good_value t w a) (good_value t w b))
  where
    go : (bridged kind (good_value t w a) (good_value t w b) ≡ good_value t w a) ⊎ (bridged kind (good_value t w a) (good_value t w b) ≡ good_value t w b) → (mask t (fault.Bridge a b kind) w a && mask t (fault.Bridge a b kind) w b) ≡ false
    go (inl is) = and_left (mask t (fault.Bridge a b kind) w a) (mask t (fault.Bridge a b kind) w b) (and_right (takes kind (eqb a a) (eqb a b)) (are_opposite (good_value t w a) (bridged kind (good_value t w a) (good_value t w b))) (ap (are_opposite (good_value t w a)) is ∙ not_opposite_itself (good_value t w a)))
    go (inr is) = and_right (mask t (fault.Bridge a b kind) w a) (mask t (fault.Bridge a b kind) w b) (and_right (takes kind (eqb b a) (eqb b b)) (are_opposite (good_value t w b) (bridged kind (good_value t w a) (good_value t w b))) (ap (are_opposite (good_value t w b)) is ∙ not_opposite_itself (good_value t w b)))

-- a net that takes a bridge's value is one of the two
one_of_pair : (kind : BridgeKind) (x y : Bool) → takes kind x y ≡ true → (x ≡ true) ⊎ (y ≡ true)
one_of_pair Dominant x y e = or_cases x y e
one_of_pair WiredAnd x y e = or_cases x y e
one_of_pair WiredOr x y e = or_cases x y e
one_of_pair DominantAnd x y e = inr e
one_of_pair DominantOr x y e = inr e

-- a fault flips one net at most in a pattern
pub one_flipped : (t : ScanTest) (f : Fault) (w m n : ℕ) → mask t f w m ≡ true → mask t f w n ≡ true → m ≡ n
one_flipped t (fault.Stem k v) w m n at_m at_n =
    eqb-true m k (and_first (eqb m k) _ at_m) ∙ sym (eqb-true n k (and_first (eqb n k) _ at_n))
one_flipped t (fault.Branch p v) w m n at_m at_n = by_place (pin_at t.netlist p).place (and_first (is_operand_of m (pin_at t.netlist p).place) _ at_m) (and_first (is_operand_of n (pin_at t.netlist p).place) _ at_n)
  where
    by_place : (x : PinPlace) → is_operand_of m x ≡ true → is_operand_of n x ≡ true → m ≡ n
    by_place (place.Operand k i) here there = eqb-true m k here ∙ sym (eqb-true n k there)
    by_place (place.Output k) here there = absurd cc
one_flipped t (fault.Bridge a b kind) w m n at_m at_n = go (of_pair m at_m) (of_pair n at_n)
  where
    of_pair : (k : ℕ) → mask t (fault.Bridge a b kind) w k ≡ true → (k ≡ a) ⊎ (k ≡ b)
    of_pair k at = elim (one_of_pair kind (eqb k a) (eqb k b) (and_first (takes kind (eqb k a) (eqb k b)) _ at)) [ inl first ↦ inl (eqb-true k a first) | inr second ↦ inr (eqb-true k b second) ]

    never_both : (x y : ℕ) → x ≡ a → y ≡ b → mask t (fault.Bridge a b kind) w x ≡ true → mask t (fault.Bridge a b kind) w y ≡ true → ⊥
    never_both x y is_a is_b at_x at_y =
        both_ways (mask t (fault.Bridge a b kind) w a && mask t (fault.Bridge a b kind) w b) (masks_apart t w a b kind)
        (and_from (mask t (fault.Bridge a b kind) w a) (mask t (fault.Bridge a b kind) w b) (subst (λ (k : ℕ). mask t (fault.Bridge a b kind) w k ≡ true) is_a at_x) (subst (λ (k : ℕ). mask t (fault.Bridge a b kind) w k ≡ true) is_b at_y))

    go : (m ≡ a) ⊎ (m ≡ b) → (n ≡ a) ⊎ (n ≡ b) → m ≡ n
    go (inl m_a) (inl n_a) = m_a ∙ sym n_a
    go (inl m_a) (inr n_b) = absurd (never_both m n m_a n_b at_m at_n)
    go (inr m_b) (inl n_a) = absurd (never_both n m n_a m_b at_n at_m)
    go (inr m_b) (inr n_b) = m_b ∙ sym n_b
one_flipped t (fault.Cell h c kind) w m n at_m at_n = absurd cc
