-- Which lanes of a block explain a failing bit, fault by fault.
use Rattle.std.proofs.Common.{◌≡◌, ℕ, ◌+◌, ◌<◌, Bool, true, false, nat_lt, ◌&&◌, ◌||◌, List, length, get_or, drop, refl, sym, ap, subst, ◌∙◌, inl, inr, arith}
use Rattle.std.specs.Prelude.{Contains, All}
use Rattle.std.specs.List.{list_any}
use Rattle.std.proofs.lemmas.Bool.{cases_Bool, or_cases, or_left, or_right, and_parts, and_from, lt-ltb, ltb-true}
use Rattle.std.proofs.lemmas.List.{get_or_default, get_or-drop, length-drop}
use Rattle.scan_model.specs.declared.parts.PatternKind.{PatternKind}
use Rattle.scan_model.specs.declared.parts.PatternKind.TheVariants.{Capture, Shift}
use Rattle.scan_model.specs.declared.parts.Point.{Point}
use Rattle.scan_model.specs.declared.fault.CellKind.{CellKind}
use Rattle.scan_model.specs.declared.fault.Fault.{Fault}
use Rattle.scan_model.specs.declared.fault.Fault.TheVariants as fault
use Rattle.scan_model.specs.ScanTest.{ScanTest, IsScanTest, chain_at, no_chain, pattern_at, points_of, point_at}
use Rattle.scan_model.proofs.Cells.{cells_are_flops}
use Rattle.scan_model.specs.NetValue.{good_value}
use Rattle.scan_model.specs.declared.values.Tri.{Tri}
use Rattle.scan_model.specs.declared.fault.BridgeKind.{BridgeKind}
use Rattle.scan_model.specs.Faults.{bridged}
use Rattle.scan_model.specs.Masks.{IsLogic}
use Rattle.scan_model.specs.declared.circuit.Driver.{Driver}
use Rattle.scan_model.specs.declared.circuit.Driver.TheVariants.{Input}
use Rattle.scan_model.specs.declared.circuit.PinPlace.{PinPlace}
use Rattle.scan_model.specs.declared.circuit.PinPlace.TheVariants as place
use Rattle.scan_model.specs.Netlist.{IsPlacedAt, driver_of}
use Rattle.scan_model.specs.Suspect.{flips, can_explain, net_reaches, operand_reaches, place_reaches, is_cell_up_to, is_cell_behind}
use Rattle.scan_model.proofs.FanSweeps.{any_found, any_among, same_answer}
use Rattle.lane_rows.specs.declared.block.Block.{Block}
use Rattle.lane_rows.specs.Lanes.{lane}
use Rattle.lane_rows.specs.Sources.{lane_values}
use Rattle.lane_rows.specs.GoodRows.{same_kind, pattern_of, AreBlockRows}
use Rattle.explained_lanes.specs.Fails.{any_fail, fails_at, explains_in, IsWithin}
use Rattle.explained_lanes.specs.Traces.{lane_at, is_shifted_through, IsPlaceIn}
use Rattle.explained_lanes.proofs.Ranges.{any_at, any_there, any_none}

capture_kind : (kind : PatternKind) → same_kind Capture kind ≡ true → kind ≡ Capture
capture_kind Capture e = refl
capture_kind Shift e = absurd cc

shift_kind : (kind : PatternKind) → same_kind Shift kind ≡ true → kind ≡ Shift
shift_kind Capture e = absurd cc
shift_kind Shift e = refl

-- a logic fault explains bits of patterns that capture, by its flips
logic_flips : (t : ScanTest) (f : Fault) (kind : PatternKind) (w : ℕ) (p : Point) → IsLogic f → can_explain t f kind w p ≡ true → (kind ≡ Capture) × (flips t f w p ≡ true)
logic_flips t (fault.Stem n v) Capture w p logic e = (refl, e)
logic_flips t (fault.Stem n v) Shift w p logic e = absurd cc
logic_flips t (fault.Branch q v) Capture w p logic e = (refl, e)
logic_flips t (fault.Branch q v) Shift w p logic e = absurd cc
logic_flips t (fault.Bridge a b k) Capture w p logic e = (refl, e)
logic_flips t (fault.Bridge a b k) Shift w p logic e = absurd cc
logic_flips t (fault.Cell h c k) kind w p logic e = absurd logic

logic_explains : (t : ScanTest) (f : Fault) (w : ℕ) (p : Point) → IsLogic f → flips t f w p ≡ true → can_explain t f Capture w p ≡ true
logic_explains t (fault.Stem n v) w p logic e = e
logic_explains t (fault.Branch q v) w p logic e = e
logic_explains t (fault.Bridge a b k) w p logic e = e
logic_explains t (fault.Cell h c k) w p logic e = absurd logic

-- a chain fault explains bits by where they stand, or by what they reach
upto_explains : (t : ScanTest) (h c : ℕ) (K : CellKind) (kind : PatternKind) (w : ℕ) (p : Point) → is_cell_up_to h c p ≡ true → can_explain t (fault.Cell h c K) kind w p ≡ true
upto_explains t h c K Capture w p e = or_left (is_cell_up_to h c p) (list_any (λ n. net_reaches t n p) (drop (c + 1) (chain_at t h).cells)) e
upto_explains t h c K Shift w p e = or_left (is_cell_up_to h c p) (is_cell_behind h c p) e

module _ (t : ScanTest) (b : ℕ) (block : Block) (good : AreBlockRows t b block) (fails : List (List ℕ)) (within : IsWithin t b fails) (j : ℕ) (lt : j < 512) where
  abbrev w : ℕ
  w = pattern_of b j

  abbrev kind : PatternKind
  kind = (pattern_at t w).kind

  abbrev C : Bool
  C = lane block.capture j

  abbrev N : ℕ
  N = length (points_of t)

  captured : C ≡ true → (w < length t.patterns) × (kind ≡ Capture)
  captured e =
      let both = and_parts (nat_lt w (length t.patterns)) (same_kind Capture kind) (sym (good.capture j lt) ∙ e) in
      (ltb-true w (length t.patterns) both.0, capture_kind kind both.1)

  is_captured : w < length t.patterns → kind ≡ Capture → C ≡ true
  is_captured there is = good.capture j lt ∙ and_from (nat_lt w (length t.patterns)) (same_kind Capture kind) (lt-ltb w (length t.patterns) there) (ap (same_kind Capture) is)

  shifted : lane block.shift j ≡ true → kind ≡ Shift
  shifted e = shift_kind kind (and_parts (nat_lt w (length t.patterns)) (same_kind Shift kind) (sym (good.shift j lt) ∙ e)).1

  is_shifted : w < length t.patterns → kind ≡ Shift → lane block.shift j ≡ true
  is_shifted there is = good.shift j lt ∙ and_from (nat_lt w (length t.patterns)) (same_kind Shift kind) (lt-ltb w (length t.patterns) there) (ap (same_kind Shift) is)

  -- the fault-free value of a net, where the pattern captures
  pub good_there : (n : ℕ) → n < length t.netlist.nets → C ≡ true → lane_values block.values j n ≡ good_value t w n
  good_there n in_range e = let c = captured e in good.good j n lt in_range c.0 c.1

  pub logic_is : (f : Fault) → IsLogic f → explains_in t f b fails j ≡ (C && any_fail t fails j (flips t f w))
  logic_is f logic = same_answer (explains_in t f b fails j) (C && any_fail t fails j (flips t f w))
      (λ e.
      let p = any_there (λ k. fails_at fails j k && can_explain t f kind w (point_at t k)) N e in
      let both = and_parts (fails_at fails j p.0) (can_explain t f kind w (point_at t p.0)) p.2 in
      let flip = logic_flips t f kind w (point_at t p.0) logic both.1 in
      and_from C (any_fail t fails j (flips t f w)) (is_captured (within.pattern j p.0 lt p.1 both.0) flip.0)
      (any_at (λ k. fails_at fails j k && flips t f w (point_at t k)) N p.0 p.1 (and_from (fails_at fails j p.0) (flips t f w (point_at t p.0)) both.0 flip.1)))
      (λ e.
      let parts = and_parts C (any_fail t fails j (flips t f w)) e in
      let p = any_there (λ k. fails_at fails j k && flips t f w (point_at t k)) N parts.1 in
      let both = and_parts (fails_at fails j p.0) (flips t f w (point_at t p.0)) p.2 in
      let explained : can_explain t f kind w (point_at t p.0) ≡ true = ap (λ (k : PatternKind). can_explain t f k w (point_at t p.0)) (captured parts.0).1 ∙ logic_explains t f w (point_at t p.0) logic both.1 in
      any_at (λ k. fails_at fails j k && can_explain t f kind w (point_at t k)) N p.0 p.1 (and_from (fails_at fails j p.0) (can_explain t f kind w (point_at t p.0)) both.0 explained))

  -- a site that is flipped, and what it reaches
  site_is : (A : Bool) (R : Point → Bool) → (A && any_fail t fails j R) ≡ any_fail t fails j (λ p. A && R p)
  site_is A R = same_answer (A && any_fail t fails j R) (any_fail t fails j (λ p. A && R p))
      (λ e.
      let parts = and_parts A (any_fail t fails j R) e in
      let p = any_there (λ k. fails_at fails j k && R (point_at t k)) N parts.1 in
      let both = and_parts (fails_at fails j p.0) (R (point_at t p.0)) p.2 in
      any_at (λ k. fails_at fails j k && (A && R (point_at t k))) N p.0 p.1 (and_from (fails_at fails j p.0) (A && R (point_at t p.0)) both.0 (and_from A (R (point_at t p.0)) parts.0 both.1)))
      (λ e.
      let p = any_there (λ k. fails_at fails j k && (A && R (point_at t k))) N e in
      let both = and_parts (fails_at fails j p.0) (A && R (point_at t p.0)) p.2 in
      let more = and_parts A (R (point_at t p.0)) both.1 in
      and_from A (any_fail t fails j R) more.0 (any_at (λ k. fails_at fails j k && R (point_at t k)) N p.0 p.1 (and_from (fails_at fails j p.0) (R (point_at t p.0)) both.0 more.1)))

  two_sites : (P Q : Point → Bool) → (any_fail t fails j P || any_fail t fails j Q) ≡ any_fail t fails j (λ p. P p || Q p)
  two_sites P Q = same_answer (any_fail t fails j P || any_fail t fails j Q) (any_fail t fails j (λ p. P p || Q p))
      (λ e. elim (or_cases (any_fail t fails j P) (any_fail t fails j Q) e) [
        | inl first ↦
            let p = any_there (λ k. fails_at fails j k && P (point_at t k)) N first in
            let both = and_parts (fails_at fails j p.0) (P (point_at t p.0)) p.2 in
            any_at (λ k. fails_at fails j k && (P (point_at t k) || Q (point_at t k))) N p.0 p.1 (and_from (fails_at fails j p.0) (P (point_at t p.0) || Q (point_at t p.0)) both.0 (or_left (P (point_at t p.0)) (Q (point_at t p.0)) both.1))
        | inr second ↦
            let p = any_there (λ k. fails_at fails j k && Q (point_at t k)) N second in
            let both = and_parts (fails_at fails j p.0) (Q (point_at t p.0)) p.2 in
            any_at (λ k. fails_at fails j k && (P (point_at t k) || Q (point_at t k))) N p.0 p.1 (and_from (fails_at fails j p.0) (P (point_at t p.0) || Q (point_at t p.0)) both.0 (or_right (P (point_at t p.0)) (Q (point_at t p.0)) both.1))
      ])
      (λ e.
      let p = any_there (λ k. fails_at fails j k && (P (point_at t k) || Q (point_at t k))) N e in
      let both = and_parts (fails_at fails j p.0) (P (point_at t p.0) || Q (point_at t p.0)) p.2 in
      elim (or_cases (P (point_at t p.0)) (Q (point_at t p.0)) both.1) [
        | inl first ↦ or_left (any_fail t fails j P) (any_fail t fails j Q) (any_at (λ k. fails_at fails j k && P (point_at t k)) N p.0 p.1 (and_from (fails_at fails j p.0) (P (point_at t p.0)) both.0 first))
        | inr second ↦ or_right (any_fail t fails j P) (any_fail t fails j Q) (any_at (λ k. fails_at fails j k && Q (point_at t k)) N p.0 p.1 (and_from (fails_at fails j p.0) (Q (point_at t p.0)) both.0 second))
      ])

  -- of one site, with the lane of what it reaches
  pub one_site_is : (row opposite reached A : Bool) (R : Point → Bool) → row ≡ (opposite && reached) → reached ≡ (C && any_fail t fails j R) → (C ≡ true → opposite ≡ A) → row ≡ (C && any_fail t fails j (λ p. A && R p))
  one_site_is row opposite reached A R is reach values = elim (cases_Bool C) [
    | inl yes' ↦ is ∙ rw (reach, yes', values yes') (site_is A R)
    | inr no' ↦ is ∙ rw (reach, no') (nothing opposite)
  ]
    where
      nothing : (x : Bool) → (x && false) ≡ false
      nothing true = refl
      nothing false = refl

  pub two_sites_are : (row first second : Bool) (P Q : Point → Bool) → row ≡ (first || second) → first ≡ (C && any_fail t fails j P) → second ≡ (C && any_fail t fails j Q) → row ≡ (C && any_fail t fails j (λ p. P p || Q p))
  two_sites_are row first second P Q is one two = elim (cases_Bool C) [
    | inl yes' ↦ is ∙ rw (one, two, yes') (two_sites P Q)
    | inr no' ↦ is ∙ rw (one, two, no') refl
  ]

  -- a fault after a cell
  module _ (h c : ℕ) (K : CellKind) (reach : List (List ℕ)) (nets : All (λ n. n < length t.netlist.nets) (chain_at t h).cells)
      (reaches : (n : ℕ) → n < length t.netlist.nets → lane_at reach j n ≡ (C && any_fail t fails j (net_reaches t n))) where
    abbrev behind : List ℕ
    behind = drop (c + 1) (chain_at t h).cells

    abbrev through : Point → Bool
    through = is_shifted_through block.shift j h c

    below : (n : ℕ) → Contains behind n → n < length t.netlist.nets
    below n in' =
        let k = in'.0 in
        let inside : c + 1 + k < length (chain_at t h).cells = omega (arith, in'.1, length-drop (c + 1) (chain_at t h).cells) in
        let at : get_or (chain_at t h).cells (c + 1 + k) 0 ≡ n = sym (get_or-drop (c + 1) (chain_at t h).cells k 0) ∙ get_or_default behind k 0 n in'.1 ∙ in'.2 in
        subst (λ (m : ℕ). m < length t.netlist.nets) at (nets (c + 1 + k) 0 inside)

    at_point : (k : ℕ) → k < N → fails_at fails j k ≡ true → can_explain t (fault.Cell h c K) kind w (point_at t k) ≡ true → (any_fail t fails j through || list_any (lane_at reach j) behind) ≡ true
    at_point k in_range fail e = go kind refl e
      where
        by_place : through (point_at t k) ≡ true → (any_fail t fails j through || list_any (lane_at reach j) behind) ≡ true
        by_place through_it = or_left (any_fail t fails j through) (list_any (lane_at reach j) behind)
            (any_at (λ m. fails_at fails j m && through (point_at t m)) N k in_range (and_from (fails_at fails j k) (through (point_at t k)) fail through_it))

        go : (x : PatternKind) → kind ≡ x → can_explain t (fault.Cell h c K) x w (point_at t k) ≡ true → (any_fail t fails j through || list_any (lane_at reach j) behind) ≡ true
        go Capture is e' = elim (or_cases (is_cell_up_to h c (point_at t k)) (list_any (λ n. net_reaches t n (point_at t k)) behind) e') [
          | inl upto ↦ by_place (or_left (is_cell_up_to h c (point_at t k)) (lane block.shift j && is_cell_behind h c (point_at t k)) upto)
          | inr some ↦
              let n = any_found (λ n. net_reaches t n (point_at t k)) behind some in
              let lane' : lane_at reach j n.0 ≡ true = reaches n.0 (below n.0 n.1) ∙ and_from C (any_fail t fails j (net_reaches t n.0)) (is_captured (within.pattern j k lt in_range fail) is)
              (any_at (λ m. fails_at fails j m && net_reaches t n.0 (point_at t m)) N k in_range (and_from (fails_at fails j k) (net_reaches t n.0 (point_at t k)) fail n.2)) in
              or_right (any_fail t fails j through) (list_any (lane_at reach j) behind) (any_among (lane_at reach j) behind n.0 n.1 lane')
        ]
        go Shift is e' = by_place (elim (or_cases (is_cell_up_to h c (point_at t k)) (is_cell_behind h c (point_at t k)) e') [
          | inl upto ↦ or_left (is_cell_up_to h c (point_at t k)) (lane block.shift j && is_cell_behind h c (point_at t k)) upto
          | inr past ↦ or_right (is_cell_up_to h c (point_at t k)) (lane block.shift j && is_cell_behind h c (point_at t k))
              (and_from (lane block.shift j) (is_cell_behind h c (point_at t k)) (is_shifted (within.pattern j k lt in_range fail) is) past)
        ])

    pub cell_is : (any_fail t fails j through || list_any (lane_at reach j) behind) ≡ explains_in t (fault.Cell h c K) b fails j
    cell_is = same_answer (any_fail t fails j through || list_any (lane_at reach j) behind) (explains_in t (fault.Cell h c K) b fails j)
        (λ e. elim (or_cases (any_fail t fails j through) (list_any (lane_at reach j) behind) e) [
          | inl places ↦
              let p = any_there (λ k. fails_at fails j k && through (point_at t k)) N places in
              let both = and_parts (fails_at fails j p.0) (through (point_at t p.0)) p.2 in
              explained p.0 p.1 both.0 (elim (or_cases (is_cell_up_to h c (point_at t p.0)) (lane block.shift j && is_cell_behind h c (point_at t p.0)) both.1) [
                | inl upto ↦ upto_explains t h c K kind w (point_at t p.0) upto
                | inr past ↦
                    let parts = and_parts (lane block.shift j) (is_cell_behind h c (point_at t p.0)) past in
                    ap (λ (k : PatternKind). can_explain t (fault.Cell h c K) k w (point_at t p.0)) (shifted parts.0) ∙ or_right (is_cell_up_to h c (point_at t p.0)) (is_cell_behind h c (point_at t p.0)) parts.1
              ])
          | inr reached ↦
              let n = any_found (lane_at reach j) behind reached in
              let parts = and_parts C (any_fail t fails j (net_reaches t n.0)) (sym (reaches n.0 (below n.0 n.1)) ∙ n.2) in
              let p = any_there (λ k. fails_at fails j k && net_reaches t n.0 (point_at t k)) N parts.1 in
              let both = and_parts (fails_at fails j p.0) (net_reaches t n.0 (point_at t p.0)) p.2 in
              explained p.0 p.1 both.0 (ap (λ (k : PatternKind). can_explain t (fault.Cell h c K) k w (point_at t p.0)) (captured parts.0).1
              ∙ or_right (is_cell_up_to h c (point_at t p.0)) (list_any (λ m. net_reaches t m (point_at t p.0)) behind) (any_among (λ m. net_reaches t m (point_at t p.0)) behind n.0 n.1 both.1))
        ])
        (λ e.
        let p = any_there (λ k. fails_at fails j k && can_explain t (fault.Cell h c K) kind w (point_at t k)) N e in
        let both = and_parts (fails_at fails j p.0) (can_explain t (fault.Cell h c K) kind w (point_at t p.0)) p.2 in
        at_point p.0 p.1 both.0 both.1)
      where
        explained : (k : ℕ) → k < N → fails_at fails j k ≡ true → can_explain t (fault.Cell h c K) kind w (point_at t k) ≡ true → explains_in t (fault.Cell h c K) b fails j ≡ true
        explained k in_range fail e = any_at (λ m. fails_at fails j m && can_explain t (fault.Cell h c K) kind w (point_at t m)) N k in_range (and_from (fails_at fails j k) (can_explain t (fault.Cell h c K) kind w (point_at t k)) fail e)

pub bridged_same : (kind : BridgeKind) (a b x y : Tri) → a ≡ x → b ≡ y → bridged kind a b ≡ bridged kind x y
bridged_same kind a b x y e d = ap (λ (v : Tri). bridged kind v b) e ∙ ap (bridged kind x) d

-- the cells of a chain are nets of the circuit
pub cells_in_range : (t : ScanTest) → IsScanTest t → (h : ℕ) → h < length t.chains → All (λ n. n < length t.netlist.nets) (chain_at t h).cells
cells_in_range t sound h lt k d inside = (cells_are_flops t h (chain_at t h) sound lt (get_or_default t.chains h no_chain (chain_at t h) lt) k d inside).0

-- a pin's place is there
pub placed_in : (t : ScanTest) (p : ℕ) (x : PinPlace) → IsPlacedAt t.netlist p x → IsPlaceIn t x
placed_in t p (place.Operand n i) h = h.0
placed_in t p (place.Output k) h = h.0

-- what an operand reaches, by what its net drives
pub operand_is : (t : ScanTest) (rows : List (List ℕ)) (j n i : ℕ) (C : Bool) (d : Driver) (row : Bool) → d ≡ driver_of t.netlist n → row ≡ (C && any_fail t rows j (operand_reaches t d n)) → row ≡ (C && any_fail t rows j (place_reaches t (place.Operand n i)))
operand_is t rows j n i C d row drives is = is ∙ ap (λ (x : Driver). C && any_fail t rows j (operand_reaches t x n)) drives

pub input_reaches_none : (t : ScanTest) (rows : List (List ℕ)) (j n : ℕ) (C : Bool) → false ≡ (C && any_fail t rows j (operand_reaches t Input n))
input_reaches_none t rows j n C = sym (ap (λ (b : Bool). C && b) (any_none (λ k. fails_at rows j k && false) (length (points_of t)) (λ k lt. nothing (fails_at rows j k))) ∙ nothing C)
  where
    nothing : (b : Bool) → (b && false) ≡ false
    nothing true = refl
    nothing false = refl
