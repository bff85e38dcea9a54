-- Through a compactor faults are as the engine asks.
use Rattle.std.proofs.Common.{◌≡◌, ℕ, ◌<◌, Bool, true, false, cond, eqb, ltb, ◌&&◌, ◌||◌, List, [], ◌∷◌, length, map, get_or, None, Some, refl, sym, ap, subst, ◌∙◌, arith}
use Rattle.std.specs.Prelude.{Contains}
use Rattle.std.specs.List.{list_any, AllByRecursion}
use Rattle.std.proofs.Math.Bool.{or-false}
use Rattle.std.proofs.lemmas.Bool.{eq-eqb, ltb-true, and_parts}
use Rattle.std.proofs.lemmas.List.Elements.{recursion_from_All}
use Rattle.std.proofs.lemmas.List.Folds.{list_any_at}
use Rattle.scan_model.specs.declared.values.Tri.{Tri}
use Rattle.scan_model.specs.declared.values.Tri.TheVariants.{Zero, One, Unknown}
use Rattle.scan_model.specs.declared.circuit.Driver.{Driver}
use Rattle.scan_model.specs.declared.circuit.Driver.TheVariants.{Input, Flop, Gate}
use Rattle.scan_model.specs.declared.circuit.GateKind.{GateKind}
use Rattle.scan_model.specs.declared.circuit.PinPlace.{PinPlace}
use Rattle.scan_model.specs.declared.circuit.PinPlace.TheVariants as place
use Rattle.scan_model.specs.declared.parts.PatternKind.{PatternKind}
use Rattle.scan_model.specs.declared.parts.PatternKind.TheVariants.{Capture, Shift}
use Rattle.scan_model.specs.declared.parts.Point.{Point}
use Rattle.scan_model.specs.declared.fault.Fault.{Fault}
use Rattle.scan_model.specs.declared.fault.Fault.TheVariants as fault
use Rattle.scan_model.specs.Values.{are_opposite, xor_of}
use Rattle.scan_model.specs.Netlist.{is_gate_driver, driver_of, pin_at}
use Rattle.scan_model.specs.Walks.{IsEvaluationOrder}
use Rattle.scan_model.specs.Faults.{stuck_value}
use Rattle.scan_model.specs.NetValue.{good_value, source_of}
use Rattle.scan_model.specs.Suspect.{observed_net}
use Rattle.scan_model.specs.ScanTest.{ScanTest, IsScanTest, IsPoint, pattern_at, points_of, point_at}
use Rattle.scan_model.specs.Universe.{universe}
use Rattle.scan_model.specs.Coverage.{bit_of}
use Rattle.scan_model.specs.Response.{observed}
use Rattle.scan_model.specs.BranchMask.{senses}
use Rattle.scan_model.specs.Masks.{operand_values, mask, place_nets, place_is_point, operand_is_point, touched_nets, IsLogic}
use Rattle.scan_model.proofs.counting.Masks.{masks_apart}
use Rattle.scan_model.proofs.counting.Shown.{not_opposite_itself}
use Rattle.lane_rows.specs.GoodRows.{same_kind}
use Rattle.packed_sim.specs.PackedParts.{captures}
use Rattle.packed_sim.proofs.Changes.{point_stands}
use Rattle.fault_effects.specs.FaultModel.{IsFaultModel, IsChainModel, pin_flips}
use Rattle.fault_effects.proofs.SoleReader.{pin_flips-is}
use Rattle.compact_points.specs.Channels.{Compactor, IsCompactorOf}
use Rattle.chain_compactor.specs.CompactMatches.{predicts_compact_fail}
use Rattle.chain_compactor.specs.Flips.{differs, flip_differs, straight_value, members_at, flip_shows_through, straight_through}
use Rattle.chain_compactor.specs.ObservationPoints.{seeing}
use Rattle.chain_compactor.specs.CompactModel.{compact_model}
use Rattle.chain_compactor.proofs.OneFlip.{captured_fails, shifted_fails, unknown_hides}
use Rattle.chain_compactor.proofs.UpstreamFlips.{flips_behind}
use Rattle.chain_compactor.proofs.Members.{members_are_points, fails-is, same_behind, silent_behind}
use Rattle.chain_compactor.proofs.SeenPoints.{seen}

-- ---- faults of the logic

map_alike : {X Y : Type 0} (f g : X → Y) (xs : List X) → ((x : X) → f x ≡ g x) → map f xs ≡ map g xs
map_alike f g [] same = refl
map_alike f g (x ∷ xs) same = rw (same x, map_alike f g xs same) refl

-- a pin of a gate goes straight to no point
gate_pin_apart : (t : ScanTest) (x : PinPlace) (n : ℕ) (p : Point) → Contains (place_nets t x) n → place_is_point t x p ≡ false
gate_pin_apart t (place.Output k) n p touched = absurd (omega (arith, touched.1))
gate_pin_apart t (place.Operand m i) n p touched = by_driver (driver_of t.netlist m) touched
  where
    by_driver : (d : Driver) → Contains (cond (is_gate_driver d) (m ∷ []) []) n → operand_is_point t d m p ≡ false
    by_driver Input touched = absurd (omega (arith, touched.1))
    by_driver Flop touched = absurd (omega (arith, touched.1))
    by_driver (Gate kind) touched = refl

straight_apart : (t : ScanTest) (f : Fault) (n w : ℕ) (ps : List Point) → IsLogic f → Contains (touched_nets t f) n → differs t w ps (straight_value t f w) ≡ false
straight_apart t (fault.Stem m v) n w ps logic touched = not_opposite_itself (xor_of (map (λ p. good_value t w (observed_net t p)) ps))
straight_apart t (fault.Bridge a b kind) n w ps logic touched = not_opposite_itself (xor_of (map (λ p. good_value t w (observed_net t p)) ps))
straight_apart t (fault.Cell h c kind) n w ps logic touched = absurd logic
straight_apart t (fault.Branch p v) n w ps logic touched =
    let good : Point → Tri = λ s. good_value t w (observed_net t s) in
    let same : map (straight_value t (fault.Branch p v) w) ps ≡ map good ps = map_alike (straight_value t (fault.Branch p v) w) good ps
    (λ s. ap (λ (b : Bool). cond b (stuck_value v) (good s)) (gate_pin_apart t (pin_at t.netlist p).place n s touched)) in
    ap (λ (vs : List Tri). are_opposite (xor_of (map good ps)) (xor_of vs)) same ∙ not_opposite_itself (xor_of (map good ps))

module _ (t : ScanTest) (sound : IsScanTest t) (order : List ℕ) (ordered : IsEvaluationOrder t.netlist order) where
  -- a net that one gate alone reads shows where the gate does
  module _ (w p n g i : ℕ) (kind : GateKind) (in_range : p < length t.netlist.pins) (net : (pin_at t.netlist p).net ≡ n) (at : (pin_at t.netlist p).place ≡ place.Operand g i) (drives : driver_of t.netlist g ≡ Gate kind)
      (one : (q : ℕ) → q < length t.netlist.pins → (pin_at t.netlist q).net ≡ n → q ≡ p) where
    -- whether the gate takes the value of a flip of the pin
    abbrev takes : Bool
    takes = senses kind (operand_values t w g) i

    sole_through : ((x : Tri) → good_value t w n ≡ x → pin_flips t w p g ≡ ((are_opposite x Zero && takes) || (are_opposite x One && takes)))
        → (ps : List Point) → AllByRecursion (IsPoint t) ps → flip_differs t w n ps ≡ (pin_flips t w p g && flip_differs t w g ps)
    sole_through flips_is ps all = go (good_value t w n) refl
      where
        by_gate : flip_differs t w n ps ≡ (takes && flip_differs t w g ps)
        by_gate = flips_behind t sound order ordered w p n g i kind in_range net at drives one ps all

        go : (x : Tri) → good_value t w n ≡ x → flip_differs t w n ps ≡ (pin_flips t w p g && flip_differs t w g ps)
        go Unknown is = unknown_hides t sound order ordered w n ps all is ∙ ap (λ (b : Bool). b && flip_differs t w g ps) (sym (flips_is Unknown is))
        go Zero is = by_gate ∙ ap (λ (b : Bool). b && flip_differs t w g ps) (sym (flips_is Zero is))
        go One is = by_gate ∙ ap (λ (b : Bool). b && flip_differs t w g ps) (sym (flips_is One is ∙ or-false takes))

  module _ (c : Compactor) (made : IsCompactorOf t c) where
    behind_all : (q : ℕ) → q < length c.points → AllByRecursion (IsPoint t) (members_at t c q)
    behind_all q within = recursion_from_All (IsPoint t) (members_at t c q) (members_are_points t c made q within)

    pub capture_fails : (f : Fault) (w q : ℕ) → Contains (universe t) f → IsLogic f → q < length c.points → (pattern_at t w).kind ≡ Capture
        → predicts_compact_fail t c f (bit_of w q) ≡ (list_any (λ n. mask t f w n && flip_shows_through t c w n q) (touched_nets t f) || straight_through t c f w q)
    capture_fails f w q there logic within captures = fails-is t c made f w q within ∙ captured_fails t sound order ordered w (members_at t c q) (behind_all q within) captures f there logic

    pub shift_fails : (f : Fault) (w q : ℕ) → IsLogic f → q < length c.points → (pattern_at t w).kind ≡ Shift → predicts_compact_fail t c f (bit_of w q) ≡ false
    shift_fails f w q logic within shifts = fails-is t c made f w q within ∙ shifted_fails t sound order ordered w f (members_at t c q) logic shifts

    pub compact_model-logic : IsFaultModel t (universe t) (compact_model t c)
    compact_model-logic = record {
      there = λ w is. (and_parts (ltb w (length t.patterns)) (same_kind Capture (pattern_at t w).kind) is).0;
      logic = λ f there logic w q within is. by_kind f there logic w q within is (pattern_at t w).kind refl;
      apart = λ f n w q logic touched. straight_apart t f n w (members_at t c q) logic touched;
      one_net = λ a b w kind. masks_apart t w a b kind;
      downstream = λ w n r sole q within captured.
          sole_through w r.pin n r.gate sole.operand.index sole.operand.kind sole.only.there sole.only.net sole.operand.at sole.operand.drives sole.only.one
          (pin_flips-is t sound order ordered (source_of t None w) n r sole) (members_at t c q) (behind_all q within);
    }
      where
        by_kind : (f : Fault) → Contains (universe t) f → IsLogic f → (w q : ℕ) → q < length c.points → ltb w (length t.patterns) ≡ true → (kind : PatternKind) → (pattern_at t w).kind ≡ kind
            → predicts_compact_fail t c f (bit_of w q)
            ≡ ((ltb w (length t.patterns) && same_kind Capture (pattern_at t w).kind) && (list_any (λ n. mask t f w n && flip_shows_through t c w n q) (touched_nets t f) || straight_through t c f w q))
        by_kind f there logic w q within is Shift kind_is = shift_fails f w q logic within kind_is ∙ sym (rw (is, kind_is) refl)
        by_kind f there logic w q within is Capture kind_is = capture_fails f w q there logic within kind_is ∙ sym (rw (is, kind_is) refl)

-- ---- faults of shift paths

module _ (t : ScanTest) (sound : IsScanTest t) (c : Compactor) (made : IsCompactorOf t c) where
  -- what holds of each point that place q sees holds of each point upstream of it
  of_seen : (q : ℕ) → q < length c.points → (Q : Point → Type 0) → ((k : ℕ) → k < length (points_of t) → (compact_model t c).sees q k ≡ true → Q (point_at t k)) → (p : Point) → Contains (members_at t c q) p → Q p
  of_seen q within Q all p has =
      let is_point : IsPoint t p = subst (IsPoint t) has.2 (members_are_points t c made q within has.0 p has.1) in
      let k = point_stands t p is_point in
      let seer = seen t c made q within p has in
      let sees : list_any (λ s. eqb q s) (seeing t c p) ≡ true = list_any_at (λ s. eqb q s) (seeing t c p) seer.0 q seer.1 (eq-eqb q (get_or (seeing t c p) seer.0 q) (sym seer.2)) in
      subst Q k.2 (all k.0 k.1 (ap (λ (s : Point). list_any (λ seer. eqb q seer) (seeing t c s)) k.2 ∙ sees))

  pub compact_model-chain : IsChainModel t (compact_model t c)
  compact_model-chain = record {
    patterns = λ w is. ltb-true w (length t.patterns) is;
    same = λ f g w q within agree. same_behind t c made f g w q within (of_seen q within (λ p. observed t (Some f) w p ≡ observed t (Some g) w p) agree);
    silent = λ f w q within agree. silent_behind t c made f w q within (of_seen q within (λ p. observed t (Some f) w p ≡ observed t None w p) agree);
  }
