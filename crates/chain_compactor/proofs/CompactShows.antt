-- Where flips, stuck pins and faults of shift paths show through a compactor.
use Rattle.std.proofs.Common.{◌≡◌, ℕ, ◌<◌, Bool, true, false, cond, ltb, ◌&&◌, List, [], ◌∷◌, length, map, get_or, None, Some, refl, sym, ap, subst, ◌∙◌, inl, inr, arith}
use Rattle.std.specs.Prelude.{Contains, IsTrue, ◌↔◌}
use Rattle.std.proofs.lemmas.Bool.{cases_Bool, eqb-true, ltb-true, and_parts}
use Rattle.std.proofs.lemmas.List.{get_or_default}
use Rattle.std.proofs.lemmas.List.Elements.{recursion_from_All}
use Rattle.scan_model.specs.declared.values.Tri.{Tri}
use Rattle.scan_model.specs.declared.parts.PatternKind.{PatternKind}
use Rattle.scan_model.specs.declared.parts.PatternKind.TheVariants.{Capture, Shift}
use Rattle.scan_model.specs.declared.parts.Point.{Point}
use Rattle.scan_model.specs.declared.fault.CellKind.{CellKind}
use Rattle.scan_model.specs.declared.fault.Stuck.{Stuck}
use Rattle.scan_model.specs.declared.fault.Fault.TheVariants as fault
use Rattle.scan_model.specs.Values.{are_opposite, xor_of}
use Rattle.scan_model.specs.Netlist.{pin_at}
use Rattle.scan_model.specs.Faults.{stuck_value}
use Rattle.scan_model.specs.ScanTest.{ScanTest, IsScanTest, IsPoint, pattern_at}
use Rattle.scan_model.specs.NetValue.{good_value}
use Rattle.scan_model.specs.Response.{observed}
use Rattle.scan_model.specs.Suspect.{observed_net}
use Rattle.scan_model.specs.Masks.{flipped, place_is_point, point_pin}
use Rattle.scan_model.proofs.counting.Shown.{not_opposite_itself, observed_good, place_is_point-is, point_pin-net}
use Rattle.lane_rows.specs.declared.block.Block.{Block}
use Rattle.lane_rows.specs.Lanes.{lane}
use Rattle.lane_rows.specs.Planes.{Planes, held}
use Rattle.place_sets.specs.Places.{has_place}
use Rattle.lane_rows.specs.GoodRows.{no_block, pattern_of, same_kind}
use Rattle.packed_sim.specs.declared.good.PackedGood.{PackedGood}
use Rattle.packed_sim.specs.declared.scratch.Scratch.{Scratch}
use Rattle.packed_sim.specs.PackedParts.{BelongsTo, block_at, captures, has_own_row}
use Rattle.packed_sim.proofs.Belonging.{own_no_row}
use Rattle.fail_logs.specs.FrameFacts.{point_among}
use Rattle.fault_effects.specs.FaultModel.{Table, shown_in, straight_in, fails_in}
use Rattle.compact_points.specs.Channels.{Compactor, IsCompactorOf}
use Rattle.chain_compactor.specs.Flips.{straight_value, members_at, flip_shows_through, straight_through}
use Rattle.chain_compactor.specs.ShownFlips.{ShowsFlip}
use Rattle.chain_compactor.specs.CompactCounts.{AreExpected, AreDue, expected_at, differs_in, within_set}
use Rattle.chain_compactor.specs.CompactModel.{compact_model}
use Rattle.chain_compactor.proofs.Xors.{map_same}
use Rattle.chain_compactor.proofs.Members.{members_are_points, map_contained, value_is, fails-is}
use Rattle.chain_compactor.proofs.ShownFlips.{flip_same}

of_capture : (k : PatternKind) → same_kind Capture k ≡ true → k ≡ Capture
of_capture Capture is = refl
of_capture Shift is = absurd cc

-- a pattern that captures is there
pub capture_there : (t : ScanTest) (w : ℕ) → captures t w ≡ true → (w < length t.patterns) × ((pattern_at t w).kind ≡ Capture)
capture_there t w is =
    let both = and_parts (ltb w (length t.patterns)) (same_kind Capture (pattern_at t w).kind) is in
    (ltb-true w (length t.patterns) both.0, of_capture (pattern_at t w).kind both.1)

-- the lanes in which a block captures
pub capture_lane : (t : ScanTest) (g : PackedGood) → BelongsTo t g → (b : ℕ) → b < length g.rows → (blocks : List Block) (d : Block) → blocks ≡ g.rows → (j : ℕ) → j < 512 → lane (get_or blocks b d).capture j ≡ captures t (pattern_of b j)
capture_lane t g belongs b within blocks d are j lt =
    let block : get_or blocks b d ≡ block_at g b = get_or_default blocks b d no_block (omega (arith, within, ap length are)) ∙ ap (λ (bs : List Block). get_or bs b no_block) are in
    ap (λ (x : Block). lane x.capture j) block ∙ (belongs.rows.each b within).capture j lt

none_differs : (good shown : Point → Tri) (ps : List Point) → ((p : Point) → Contains ps p → shown p ≡ good p) → are_opposite (xor_of (map good ps)) (xor_of (map shown ps)) ≡ false
none_differs good shown ps same = ap (λ (vs : List Tri). are_opposite (xor_of (map good ps)) (xor_of vs)) (map_contained shown good ps same) ∙ not_opposite_itself (xor_of (map good ps))

-- a table that has nothing outside a set
within_all : (set : List ℕ) (c : Table) (q j : ℕ) → (has_place set q ≡ false → c q j ≡ false) → within_set set c q j ≡ c q j
within_all set c q j none = elim (cases_Bool (has_place set q)) [
  | inl has ↦ ap (λ (b : Bool). b && c q j) has
  | inr absent ↦ ap (λ (b : Bool). b && c q j) absent ∙ sym (none absent)
]

and_none : (a b : Bool) → (a ≡ true → b ≡ false) → (a && b) ≡ false
and_none true b h = h refl
and_none false b h = refl

module _ (t : ScanTest) (sound : IsScanTest t) (c : Compactor) (made : IsCompactorOf t c) where
  is_point : (q : ℕ) → q < length c.points → (p : Point) → Contains (members_at t c q) p → IsPoint t p
  is_point q lt p has = subst (IsPoint t) has.2 (members_are_points t c made q lt has.0 p has.1)

  abbrev good : ℕ → ℕ → Point → Tri
  good b j p = good_value t (pattern_of b j) (observed_net t p)

  -- what is expected is the XOR of fault-free values
  module _ (b : ℕ) (expected : List Planes) (are : AreExpected t c b expected) (q j : ℕ) (within : q < length c.points) (lt : j < 512) where
    pub expected_shown : pattern_of b j < length t.patterns → held (expected_at expected q) j ≡ xor_of (map (observed t None (pattern_of b j)) (members_at t c q))
    expected_shown there = are.value q j within lt there ∙ value_is t c made None (pattern_of b j) (point_among c.points q)

    pub expected_good : captures t (pattern_of b j) ≡ true → held (expected_at expected q) j ≡ xor_of (map (good b j) (members_at t c q))
    expected_good captured =
        let there = capture_there t (pattern_of b j) captured in
        expected_shown there.0
        ∙ ap xor_of (map_same (IsPoint t) (observed t None (pattern_of b j)) (good b j) (members_at t c q) (recursion_from_All (IsPoint t) (members_at t c q) (members_are_points t c made q within))
        (λ p is. observed_good t sound (pattern_of b j) p is there.1))

  module _ (g : PackedGood) (b : ℕ) (capture : List ℕ) (capture_is : (j : ℕ) → j < 512 → lane capture j ≡ captures t (pattern_of b j)) where
    -- a place that isn't due sees nothing of a flip
    pub flip_places : (n : ℕ) (s : Scratch) (nets due : List ℕ) → ShowsFlip t g b n s → ((m : ℕ) → Contains nets m ↔ IsTrue (has_own_row s m)) → AreDue t c nets due → (q j : ℕ) → q < length c.points → j < 512
        → within_set due (differs_in t c capture (good b) (λ i p. flipped t (pattern_of b i) n (observed_net t p))) q j ≡ shown_in (compact_model t c) b n q j
    flip_places n s nets due shows all are q j within lt =
        let shown : ℕ → Point → Tri = λ i p. flipped t (pattern_of b i) n (observed_net t p) in
        within_all due (differs_in t c capture (good b) shown) q j (λ absent. and_none (lane capture j) (flip_shows_through t c (pattern_of b j) n q)
        (λ on. none_differs (good b j) (shown j) (members_at t c q) (λ p has.
        flip_same t sound g b n s shows p (is_point q within p has) j lt (sym (capture_is j lt) ∙ on) (observed_net t p) refl
        (own_no_row g s b j (observed_net t p) (not_own p has absent)))))
        ∙ ap (λ (x : Bool). x && flip_shows_through t c (pattern_of b j) n q) (capture_is j lt)
      where
        not_own : (p : Point) → Contains (members_at t c q) p → has_place due q ≡ false → has_own_row s (observed_net t p) ≡ false
        not_own p has absent = elim (cases_Bool (has_own_row s (observed_net t p))) [
          | inl owned ↦ absurd (let e : true ≡ false = sym (are.all q p within has ((all (observed_net t p)).1 owned)) ∙ absent in cc)
          | inr none ↦ none
        ]

    -- nor of a stuck pin
    pub pin_places : (pin : ℕ) (v : Stuck) (net : ℕ) (due : List ℕ) → pin < length t.netlist.pins → net ≡ (pin_at t.netlist pin).net → AreDue t c (net ∷ []) due → (q j : ℕ) → q < length c.points → j < 512
        → within_set due (differs_in t c capture (good b) (λ i p. straight_value t (fault.Branch pin v) (pattern_of b i) p)) q j ≡ straight_in (compact_model t c) b (fault.Branch pin v) q j
    pin_places pin v net due site net_is are q j within lt =
        let shown : ℕ → Point → Tri = λ i p. straight_value t (fault.Branch pin v) (pattern_of b i) p in
        within_all due (differs_in t c capture (good b) shown) q j (λ absent. and_none (lane capture j) (straight_through t c (fault.Branch pin v) (pattern_of b j) q)
        (λ on. none_differs (good b j) (shown j) (members_at t c q) (λ p has. ap (λ (x : Bool). cond x (stuck_value v) (good b j p)) (not_pin p has absent))))
        ∙ ap (λ (x : Bool). x && straight_through t c (fault.Branch pin v) (pattern_of b j) q) (capture_is j lt)
      where
        not_pin : (p : Point) → Contains (members_at t c q) p → has_place due q ≡ false → place_is_point t (pin_at t.netlist pin).place p ≡ false
        not_pin p has absent = elim (cases_Bool (place_is_point t (pin_at t.netlist pin).place p)) [
          | inl sees ↦
              let own : point_pin t p ≡ pin = eqb-true (point_pin t p) pin (sym (place_is_point-is t sound pin p site (is_point q within p has)) ∙ sees) in
              let net : net ≡ observed_net t p = net_is ∙ ap (λ (r : ℕ). (pin_at t.netlist r).net) (sym own) ∙ point_pin-net t sound p (is_point q within p has) in
              absurd (let e : true ≡ false = sym (are.all q p within has (0, omega arith, net)) ∙ absent in cc)
          | inr none ↦ none
        ]

  -- a fault of a shift path, in the lanes of the patterns
  pub cell_places : (b h i : ℕ) (kind : CellKind) (there : List ℕ) (q j : ℕ) → q < length c.points → lane there j ≡ ltb (pattern_of b j) (length t.patterns)
      → differs_in t c there (λ k p. observed t None (pattern_of b k) p) (λ k p. observed t (Some (fault.Cell h i kind)) (pattern_of b k) p) q j ≡ fails_in (compact_model t c) b (fault.Cell h i kind) q j
  cell_places b h i kind there q j within is =
      let f = fault.Cell h i kind in
      ap (λ (x : Bool). x && are_opposite (xor_of (map (observed t None (pattern_of b j)) (members_at t c q))) (xor_of (map (observed t (Some f) (pattern_of b j)) (members_at t c q)))) is
      ∙ ap (λ (x : Bool). ltb (pattern_of b j) (length t.patterns) && x) (sym (fails-is t c made f (pattern_of b j) q within))
