-- A predicted fail is one that the fault can explain, so a fault that is no suspect has no failing bit.
use Rattle.std.proofs.Common.{◌≡◌, ◌≢◌, ℕ, zero, suc, ◌+◌, ◌-◌, ◌<◌, ◌≤◌, Bool, true, false, cond, eqb, ltb, leb, ◌&&◌, ◌||◌, List, [], ◌∷◌, length, map, get_or, drop, Some, None, refl, sym, ap, subst, ◌∙◌, inl, inr, arith}
use Rattle.std.specs.Prelude.{Contains, count_by}
use Rattle.std.specs.List.{range_with_len, list_any, AllByRecursion}
use Rattle.std.proofs.lemmas.Bool.{cases_Bool, cases_eq, cases_lt, eq-eqb, ne_eqb, eqb-true, both_ways, and_parts, and_from, or_cases, or_left, or_right, or_parts, and_cases, and_left, and_right, lt-ltb, le-leb}
use Rattle.std.proofs.lemmas.List.{get_or_default, get_or-drop, length-drop}
use Rattle.std.proofs.lemmas.List.Sums.{sum_by-cons}
use Rattle.scan_model.specs.declared.values.Tri.{Tri}
use Rattle.scan_model.specs.declared.circuit.Driver.{Driver}
use Rattle.scan_model.specs.declared.circuit.Driver.TheVariants.{Input, Flop, Gate}
use Rattle.scan_model.specs.declared.circuit.PinPlace.{PinPlace}
use Rattle.scan_model.specs.declared.circuit.PinPlace.TheVariants as place
use Rattle.scan_model.specs.declared.parts.Point.{Point}
use Rattle.scan_model.specs.declared.parts.Point.TheVariants.{Output, Cell}
use Rattle.scan_model.specs.declared.parts.PatternKind.{PatternKind}
use Rattle.scan_model.specs.declared.parts.PatternKind.TheVariants.{Capture, Shift}
use Rattle.scan_model.specs.declared.fault.CellKind.{CellKind}
use Rattle.scan_model.specs.declared.fault.Fault.{Fault}
use Rattle.scan_model.specs.declared.fault.Fault.TheVariants as fault
use Rattle.scan_model.specs.declared.logs.Bit.{Bit}
use Rattle.scan_model.specs.declared.logs.LogFacts.{LogFacts}
use Rattle.scan_model.specs.Values.{are_opposite, tri_not}
use Rattle.scan_model.specs.Netlist.{IsNetlist, is_gate_driver, driver_of, pin_at}
use Rattle.scan_model.specs.Walks.{IsEvaluationOrder}
use Rattle.scan_model.specs.Cone.{in_fan_in}
use Rattle.scan_model.specs.ScanTest.{ScanTest, IsScanTest, IsPoint, HasSite, chain_at, pattern_at, points_of, point_at}
use Rattle.scan_model.specs.Faults.{stuck_value, bridged, takes}
use Rattle.scan_model.specs.NetValue.{driven, values_of, source_of, nothing_forced, good_value, net_value}
use Rattle.scan_model.specs.Universe.{universe}
use Rattle.scan_model.specs.Coverage.{bit_of, bits_of}
use Rattle.scan_model.specs.Classes.{class, is_failing}
use Rattle.scan_model.specs.Response.{observed, predicts_fail, captured}
use Rattle.scan_model.specs.MatchCounts.{counts_of}
use Rattle.scan_model.specs.Suspect.{observed_net, operand_reaches, place_reaches, net_reaches, flips, is_cell_up_to, is_cell_behind, can_explain, is_suspect}
use Rattle.scan_model.proofs.FanSweeps.{any_found, any_among, in_own}
use Rattle.scan_model.proofs.Sites.{site_of}
use Rattle.scan_model.specs.BranchMask.{senses}
use Rattle.scan_model.specs.Masks.{flipped, flip_shows_at, is_operand_of, forced_output, mask, operand_is_point, place_is_point, straight_at, place_nets, touched_nets, IsLogic, operand_values}
use Rattle.scan_model.proofs.counting.Valuations.{agree_apart, values_meet}
use Rattle.scan_model.proofs.counting.OneSite.{force_outside}
use Rattle.scan_model.proofs.counting.BranchPins.{branch_flips}
use Rattle.scan_model.specs.Loads.{cell}
use Rattle.scan_model.proofs.counting.Sources.{source_free}
use Rattle.scan_model.proofs.counting.Chains.{unload_above}
use Rattle.scan_model.proofs.counting.Shown.{not_opposite_itself, observed_net-in_range, point_at-IsPoint, predicts_fail-is, observed_good}
use Rattle.scan_model.proofs.counting.ChainSteps.{outside_shows_net, own_shows, captured_net, shift_outside}
use Rattle.scan_model.proofs.counting.LogicFaults.{IsLoopFree, loop_free, each_under}
use Rattle.scan_model.proofs.counting.Masks.{masks-capture, masks-shift}

no_false : (b : Bool) → (b || false) ≡ true → b ≡ true
no_false true e = refl
no_false false e = e

module _ (t : ScanTest) (sound : IsScanTest t) (order : List ℕ) (ordered : IsEvaluationOrder t.netlist order) (w : ℕ) where
  abbrev s : ℕ → Tri
  s = source_of t None w

  abbrev good : ℕ → Tri
  good = good_value t w

  net_sound : IsNetlist t.netlist
  net_sound = sound.circuit.netlist

  -- ---- logic faults

  -- a flip shows in the cone of its net alone
  pub shows_in_cone : (n : ℕ) (p : Point) → IsPoint t p → flip_shows_at t w n p ≡ true → net_reaches t n p ≡ true
  shows_in_cone n p is_point shows = elim (cases_Bool (net_reaches t n p)) [
    | inl reaches ↦ reaches
    | inr out ↦
        let o = observed_net t p in
        let same : flipped t w n o ≡ good o = force_outside t.netlist order net_sound ordered s n (tri_not (good n)) o (observed_net-in_range t sound p is_point) out in
        absurd (both_ways (flip_shows_at t w n p) (ap (are_opposite (good o)) same ∙ not_opposite_itself (good o)) shows)
  ]

  abbrev predicted : Fault → Point → Bool
  predicted f p = list_any (λ n. mask t f w n && flip_shows_at t w n p) (touched_nets t f) || straight_at t f w p

  flips_there : (f : Fault) (p : Point) → IsPoint t p → HasSite t f → IsLoopFree t f → IsLogic f → predicted f p ≡ true → flips t f w p ≡ true
  flips_there (fault.Stem m v) p is_point site free logic shows =
      let A = are_opposite (good m) (stuck_value v) in
      let parts = and_parts (eqb m m && A) (flip_shows_at t w m p) (no_false ((eqb m m && A) && flip_shows_at t w m p) (no_false (((eqb m m && A) && flip_shows_at t w m p) || false) shows)) in
      and_from A (net_reaches t m p) (and_parts (eqb m m) A parts.0).1 (shows_in_cone m p is_point parts.1)
  flips_there (fault.Bridge a b kind) p is_point site free logic shows =
      let x = bridged kind (good a) (good b) in
      let A = are_opposite (good a) x in
      let B = are_opposite (good b) x in
      let apart : a ≢ b = λ same. both_ways (in_fan_in t.netlist b a) free.0 (ap (in_fan_in t.netlist b) same ∙ in_own t.netlist b) in
      let MA = takes kind (eqb a a) (eqb a b) && A in
      let MB = takes kind (eqb b a) (eqb b b) && B in
      let takes_first : (takes kind (eqb a a) (eqb a b) && A) ≡ (takes kind true false && A) = rw (eq-eqb a a refl, ne_eqb a b apart) refl in
      elim (or_cases (MA && flip_shows_at t w a p) ((MB && flip_shows_at t w b p) || false) (no_false ((MA && flip_shows_at t w a p) || ((MB && flip_shows_at t w b p) || false)) shows)) [
        | inl first ↦
            let parts = and_parts MA (flip_shows_at t w a p) first in
            or_left ((takes kind true false && A) && net_reaches t a p) (B && net_reaches t b p) (and_from (takes kind true false && A) (net_reaches t a p) (sym takes_first ∙ parts.0) (shows_in_cone a p is_point parts.1))
        | inr second ↦
            let parts = and_parts MB (flip_shows_at t w b p) (no_false (MB && flip_shows_at t w b p) second) in
            or_right ((takes kind true false && A) && net_reaches t a p) (B && net_reaches t b p) (and_from B (net_reaches t b p) (and_parts (takes kind (eqb b a) (eqb b b)) B parts.0).1 (shows_in_cone b p is_point parts.1))
      ]
  flips_there (fault.Cell h c kind) p is_point site free logic shows = absurd logic
  flips_there (fault.Branch q v) p is_point site free logic shows = elim (or_cases (list_any shown (place_nets t (pin_at t.netlist q).place)) (place_is_point t (pin_at t.netlist q).place p && O) shows) [
    | inl net ↦ by_place (pin_at t.netlist q).place refl net
    | inr pin ↦
        let parts = and_parts (place_is_point t (pin_at t.netlist q).place p) O pin in
        and_from O (place_reaches t (pin_at t.netlist q).place p) parts.1 (point_reaches (pin_at t.netlist q).place parts.0)
  ]
    where
      O : Bool
      O = are_opposite (good (pin_at t.netlist q).net) (stuck_value v)

      shown : ℕ → Bool
      shown n = mask t (fault.Branch q v) w n && flip_shows_at t w n p

      own_point : (d : Driver) (n : ℕ) → operand_is_point t d n p ≡ true → operand_reaches t d n p ≡ true
      own_point Input n e = e
      own_point Flop n e = e
      own_point (Gate kd) n e = absurd cc

      point_reaches : (y : PinPlace) → place_is_point t y p ≡ true → place_reaches t y p ≡ true
      point_reaches (place.Output k) e = e
      point_reaches (place.Operand n i) e = own_point (driver_of t.netlist n) n e

      among : (xs : List ℕ) → place_nets t (pin_at t.netlist q).place ≡ xs → list_any shown (place_nets t (pin_at t.netlist q).place) ≡ true → list_any shown xs ≡ true
      among xs is net = ap (list_any shown) (sym is) ∙ net

      at_operand : (n i : ℕ) → (pin_at t.netlist q).place ≡ place.Operand n i → (d : Driver) → driver_of t.netlist n ≡ d → list_any shown (place_nets t (pin_at t.netlist q).place) ≡ true → (O && place_reaches t (pin_at t.netlist q).place p) ≡ true
      at_operand n i at Input drives net = absurd (let e : false ≡ true = among [] (ap (place_nets t) at ∙ ap (λ (g : Bool). cond g (n ∷ []) []) (ap is_gate_driver drives)) net in cc)
      at_operand n i at Flop drives net = absurd (let e : false ≡ true = among [] (ap (place_nets t) at ∙ ap (λ (g : Bool). cond g (n ∷ []) []) (ap is_gate_driver drives)) net in cc)
      at_operand n i at (Gate kd) drives net =
          let here = no_false (shown n) (among (n ∷ []) (ap (place_nets t) at ∙ ap (λ (g : Bool). cond g (n ∷ []) []) (ap is_gate_driver drives)) net) in
          let M = mask t (fault.Branch q v) w n in
          let parts = and_parts M (flip_shows_at t w n p) here in
          let masked = (and_parts (is_operand_of n (pin_at t.netlist q).place) (are_opposite (good n) (forced_output t w (fault.Branch q v) n)) parts.0).1 in
          let opposite = (and_parts O (senses kd (operand_values t w n) i) (sym (branch_flips t sound order ordered w q n i v kd site at drives) ∙ masked)).0 in
          and_from O (place_reaches t (pin_at t.netlist q).place p) opposite
          (ap (λ (y : PinPlace). place_reaches t y p) at ∙ ap (λ (d : Driver). operand_reaches t d n p) drives ∙ shows_in_cone n p is_point parts.1)

      by_place : (y : PinPlace) → (pin_at t.netlist q).place ≡ y → list_any shown (place_nets t (pin_at t.netlist q).place) ≡ true → (O && place_reaches t (pin_at t.netlist q).place p) ≡ true
      by_place (place.Output k) at net = absurd (let e : false ≡ true = among [] (ap (place_nets t) at) net in cc)
      by_place (place.Operand n i) at net = at_operand n i at (driver_of t.netlist n) refl net

  -- ---- chain faults

  module _ (lt : w < length t.patterns) (captures : (pattern_at t w).kind ≡ Capture) (h c : ℕ) (K : CellKind) (in_range : h < length t.chains) where
    abbrev above : List ℕ
    above = drop (c + 1) (chain_at t h).cells

    stands_above : (n i : ℕ) → c < i → i < length (chain_at t h).cells → cell t h i ≡ n → list_any (eqb n) above ≡ true
    stands_above n i over within is =
        let k = i - (c + 1) in
        let e : (c + 1) + k ≡ i = omega arith in
        let at : get_or above k n ≡ n = get_or-drop (c + 1) (chain_at t h).cells k n ∙ ap (λ (m : ℕ). get_or (chain_at t h).cells m n) e ∙ get_or_default (chain_at t h).cells i n 0 within ∙ is in
        any_among (eqb n) above n (k, omega (arith, length-drop (c + 1) (chain_at t h).cells), at) (eq-eqb n n refl)

    -- outside the cones of the cells above the fault the values are those without fault
    pub cell_outside : (o : ℕ) → o < length t.netlist.nets → list_any (λ n. in_fan_in t.netlist n o) above ≡ false → net_value t (Some (fault.Cell h c K)) w o ≡ good o
    cell_outside o in' out =
        let r = source_of t (Some (fault.Cell h c K)) w in
        agree_apart t.netlist order net_sound ordered r s nothing_forced nothing_forced (λ n. list_any (eqb n) above) (values_of t.netlist r nothing_forced) good
        (values_meet t.netlist order net_sound ordered r nothing_forced) (values_meet t.netlist order net_sound ordered s nothing_forced)
        (λ n below miss u. go n (source_free t w sound lt captures h K in_range c n (λ i over within is. both_ways (list_any (eqb n) above) miss (stands_above n i over within is))) (driver_of t.netlist n) u)
        o in' (λ m hit. elim (cases_Bool (in_fan_in t.netlist m o)) [
          | inl inside ↦
              let found = any_found (eqb m) above hit in
              absurd (both_ways (list_any (λ n. in_fan_in t.netlist n o) above) out (any_among (λ n. in_fan_in t.netlist n o) above found.0 found.1 (ap (λ (n : ℕ). in_fan_in t.netlist n o) (sym (eqb-true m found.0 found.2)) ∙ inside)))
          | inr outside ↦ outside
        ])
      where
        go : (n : ℕ) → source_of t (Some (fault.Cell h c K)) w n ≡ s n → (d : Driver) (u : ℕ → Tri) → driven t.netlist (source_of t (Some (fault.Cell h c K)) w) nothing_forced d u n ≡ driven t.netlist s nothing_forced d u n
        go n same Input u = same
        go n same Flop u = same
        go n same (Gate kd) u = refl

    abbrev f : Fault
    f = fault.Cell h c K

    cell_explained : (p : Point) → IsPoint t p → are_opposite (observed t None w p) (observed t (Some f) w p) ≡ true → (is_cell_up_to h c p || list_any (λ n. net_reaches t n p) above) ≡ true
    cell_explained p is_point fails = elim (cases_Bool (list_any (λ n. net_reaches t n p) above)) [
      | inl reached ↦ or_right (is_cell_up_to h c p) (list_any (λ n. net_reaches t n p) above) reached
      | inr out ↦
          let same : net_value t (Some f) w (observed_net t p) ≡ good (observed_net t p) = cell_outside (observed_net t p) (observed_net-in_range t sound p is_point) out in
          or_left (is_cell_up_to h c p) (list_any (λ n. net_reaches t n p) above) (up_to p is_point (λ shows_net.
          both_ways (are_opposite (observed t None w p) (observed t (Some f) w p))
          (ap (are_opposite (observed t None w p)) (shows_net ∙ same ∙ sym (observed_good t sound w p is_point captures)) ∙ not_opposite_itself (observed t None w p)) fails))
    ]
      where
        up_to : (p : Point) → IsPoint t p → (observed t (Some f) w p ≡ net_value t (Some f) w (observed_net t p) → ⊥) → is_cell_up_to h c p ≡ true
        up_to (Output k) is_point differs = absurd (differs (outside_shows_net t sound w h K c (Output k) is_point captures tt))
        up_to (Cell g i) is_point differs = elim (cases_eq g h) [
          | inr other ↦ absurd (differs (outside_shows_net t sound w h K c (Cell g i) is_point captures other))
          | inl own ↦ elim (cases_lt c i) [
            | inl over ↦
                let within : i < length (chain_at t h).cells = omega (arith, ap (λ (m : ℕ). length (chain_at t m).cells) own, is_point.1) in
                absurd (differs (ap (λ (m : ℕ). observed t (Some f) w (Cell m i)) own ∙ own_shows t sound w h K c i within captures ∙ unload_above K c i (captured t (Some f) w h) over ∙ captured_net t sound w h K c i within
                ∙ ap (λ (m : ℕ). net_value t (Some f) w (observed_net t (Cell m i))) (sym own)))
            | inr up ↦ and_from (eqb g h) (leb i c) (eq-eqb g h own) (le-leb i c up)
          ]
        ]

-- ---- all bits

abbrev IsBit : ScanTest → Bit → Type 0
IsBit t b = (b.pattern < length t.patterns) × (b.point < length (points_of t))

in_range_of : (a n : ℕ) → AllByRecursion (λ k. k < a + n) (range_with_len a n)
in_range_of a zero = tt
in_range_of a (suc n) = (omega arith, subst (λ (m : ℕ). AllByRecursion (λ k. k < m) (range_with_len (a + 1) n)) (omega arith) (in_range_of (a + 1) n))

row_bits : (t : ScanTest) (w : ℕ) (ks : List ℕ) → w < length t.patterns → AllByRecursion (λ k. k < 0 + length (points_of t)) ks → AllByRecursion (IsBit t) (map (bit_of w) ks)
row_bits t w [] lt all = tt
row_bits t w (k ∷ ks) lt all = ((lt, omega (arith, all.0)), row_bits t w ks lt all.1)

bits_in_range : (t : ScanTest) → AllByRecursion (IsBit t) (bits_of t)
bits_in_range t = each_under (IsBit t) (λ w. w < 0 + length t.patterns) (λ w. map (bit_of w) (range_with_len 0 (length (points_of t)))) (range_with_len 0 (length t.patterns))
    (λ w lt. row_bits t w (range_with_len 0 (length (points_of t))) (omega arith) (in_range_of 0 (length (points_of t)))) (in_range_of 0 (length t.patterns))

none_counted : {P : Bit → Type 0} (A B : Bit → Bool) (xs : List Bit) → AllByRecursion P xs → list_any A xs ≡ false → ((b : Bit) → P b → A b ≡ false → B b ≡ false) → count_by B xs ≡ 0
none_counted A B [] all none follows = refl
none_counted A B (b ∷ xs) all none follows =
    let parts = or_parts (A b) (list_any A xs) none in
    rw (sum_by-cons (λ (x : Bit). cond (B x) 1 0) b xs, follows b all.0 parts.0, none_counted A B xs all.1 parts.1 follows) refl

module _ (t : ScanTest) (sound : IsScanTest t) (order : List ℕ) (ordered : IsEvaluationOrder t.netlist order) where
  -- where a logic fault predicts a fail, its site is flipped
  pub predicted_flips : (f : Fault) (w k : ℕ) → Contains (universe t) f → IsLogic f → k < length (points_of t) → (pattern_at t w).kind ≡ Capture → predicts_fail t f (bit_of w k) ≡ true → flips t f w (point_at t k) ≡ true
  predicted_flips f w k in' logic within captures shows =
      flips_there t sound order ordered w f (point_at t k) (point_at-IsPoint t sound k within) (site_of t f sound in') (loop_free t f sound in') logic (sym (masks-capture t sound order ordered w f k in' logic within captures) ∙ shows)

  -- a predicted fail is one that the fault can explain
  pub predicted_explained : (f : Fault) (w k : ℕ) → Contains (universe t) f → w < length t.patterns → k < length (points_of t) → predicts_fail t f (bit_of w k) ≡ true → can_explain t f (pattern_at t w).kind w (point_at t k) ≡ true
  predicted_explained f w k in' lt within shows = by_kind (pattern_at t w).kind refl f in' shows
    where
      abbrev_point : IsPoint t (point_at t k)
      abbrev_point = point_at-IsPoint t sound k within

      in_shift : (f : Fault) → IsLogic f → (pattern_at t w).kind ≡ Shift → predicts_fail t f (bit_of w k) ≡ true → ⊥
      in_shift f logic shifts shows = both_ways (predicts_fail t f (bit_of w k)) (masks-shift t sound order ordered w f k logic within shifts) shows

      shifted : (h c : ℕ) (K : CellKind) (p : Point) → (pattern_at t w).kind ≡ Shift → are_opposite (observed t None w p) (observed t (Some (fault.Cell h c K)) w p) ≡ true → (is_cell_up_to h c p || is_cell_behind h c p) ≡ true
      shifted h c K (Output j) shifts fails = absurd (both_ways (are_opposite (observed t None w (Output j)) (observed t (Some (fault.Cell h c K)) w (Output j)))
          (ap (are_opposite (observed t None w (Output j))) (shift_outside t sound w h K c (Output j) shifts tt) ∙ not_opposite_itself (observed t None w (Output j))) fails)
      shifted h c K (Cell g i) shifts fails = elim (cases_eq g h) [
        | inr other ↦ absurd (both_ways (are_opposite (observed t None w (Cell g i)) (observed t (Some (fault.Cell h c K)) w (Cell g i)))
            (ap (are_opposite (observed t None w (Cell g i))) (shift_outside t sound w h K c (Cell g i) shifts other) ∙ not_opposite_itself (observed t None w (Cell g i))) fails)
        | inl own ↦ elim (cases_lt c i) [
          | inl over ↦ or_right (eqb g h && leb i c) (eqb g h && ltb c i) (and_from (eqb g h) (ltb c i) (eq-eqb g h own) (lt-ltb c i over))
          | inr up ↦ or_left (eqb g h && leb i c) (eqb g h && ltb c i) (and_from (eqb g h) (leb i c) (eq-eqb g h own) (le-leb i c up))
        ]
      ]

      by_kind : (kind : PatternKind) → (pattern_at t w).kind ≡ kind → (f : Fault) → Contains (universe t) f → predicts_fail t f (bit_of w k) ≡ true → can_explain t f kind w (point_at t k) ≡ true
      by_kind Capture captures (fault.Stem m v) in' shows = predicted_flips (fault.Stem m v) w k in' tt within captures shows
      by_kind Capture captures (fault.Branch p v) in' shows = predicted_flips (fault.Branch p v) w k in' tt within captures shows
      by_kind Capture captures (fault.Bridge a b kind) in' shows = predicted_flips (fault.Bridge a b kind) w k in' tt within captures shows
      by_kind Capture captures (fault.Cell h c K) in' shows = cell_explained t sound order ordered w lt captures h c K (site_of t (fault.Cell h c K) sound in').0 (point_at t k) abbrev_point (sym (predicts_fail-is t sound (fault.Cell h c K) w k within) ∙ shows)
      by_kind Shift shifts (fault.Stem m v) in' shows = absurd (in_shift (fault.Stem m v) tt shifts shows)
      by_kind Shift shifts (fault.Branch p v) in' shows = absurd (in_shift (fault.Branch p v) tt shifts shows)
      by_kind Shift shifts (fault.Bridge a b kind) in' shows = absurd (in_shift (fault.Bridge a b kind) tt shifts shows)
      by_kind Shift shifts (fault.Cell h c K) in' shows = shifted h c K (point_at t k) shifts (sym (predicts_fail-is t sound (fault.Cell h c K) w k within) ∙ shows)

  -- a predicted fail can be explained
  pub no_suspect-no_fail : (logs : List LogFacts) (f : Fault) → Contains (universe t) f → is_suspect t logs f ≡ false → (counts_of t logs f).tfsf ≡ 0
  no_suspect-no_fail logs f in' none = none_counted A B (bits_of t) (bits_in_range t) none (λ b within miss. elim (and_cases (is_failing (class t logs b)) (can_explain t f (pattern_at t b.pattern).kind b.pattern (point_at t b.point)) miss) [
    | inl passes ↦ and_left (is_failing (class t logs b)) (predicts_fail t f b) passes
    | inr cannot ↦ and_right (is_failing (class t logs b)) (predicts_fail t f b) (elim (cases_Bool (predicts_fail t f b)) [
      | inl shows ↦ absurd (both_ways (can_explain t f (pattern_at t b.pattern).kind b.pattern (point_at t b.point)) cannot (predicted_explained f b.pattern b.point in' within.0 within.1 shows))
      | inr silent ↦ silent
    ])
  ])
    where
      A : Bit → Bool
      A b = is_failing (class t logs b) && can_explain t f (pattern_at t b.pattern).kind b.pattern (point_at t b.point)

      B : Bit → Bool
      B b = is_failing (class t logs b) && predicts_fail t f b

  -- a candidate is a suspect
  pub candidate_is_suspect : (logs : List LogFacts) (f : Fault) → Contains (universe t) f → 1 ≤ (counts_of t logs f).tfsf → is_suspect t logs f ≡ true
  candidate_is_suspect logs f in' some = elim (cases_Bool (is_suspect t logs f)) [
    | inl suspect ↦ suspect
    | inr none ↦ absurd (omega (arith, no_suspect-no_fail logs f in' none))
  ]
