-- How what points show under a fault of a shift path differs from what they show without one.
use Rattle.std.proofs.Common.{◌≡◌, ℕ, ◌<◌, Bool, true, false, cond, ltb, ◌&&◌, length, None, Some, refl, sym, ap, ◌∙◌, inl, inr, arith}
use Rattle.std.proofs.lemmas.Bool.{lt-ltb}
use Rattle.std.proofs.lemmas.List.{length-append, get_or_append_left}
use Rattle.std.proofs.lemmas.List.FromFn.{get_or-map-range_with_len, length-map-range_with_len}
use Rattle.std.specs.Prelude.{flat_map, map}
use Rattle.std.specs.List.{range_with_len}
use Rattle.scan_model.specs.declared.values.Tri.{Tri}
use Rattle.scan_model.specs.declared.values.Tri.TheVariants.{Zero, One, Unknown}
use Rattle.scan_model.specs.declared.parts.PatternKind.{PatternKind}
use Rattle.scan_model.specs.declared.parts.PatternKind.TheVariants.{Capture, Shift}
use Rattle.scan_model.specs.declared.parts.Point.{Point}
use Rattle.scan_model.specs.declared.parts.Point.TheVariants.{Output, Cell}
use Rattle.scan_model.specs.declared.fault.CellKind.{CellKind}
use Rattle.scan_model.specs.declared.fault.Fault.{Fault}
use Rattle.scan_model.specs.declared.fault.Fault.TheVariants as fault
use Rattle.scan_model.specs.Values.{tri_xor, is_unknown}
use Rattle.scan_model.specs.ScanTest.{ScanTest, IsScanTest, IsPoint, pattern_at, points_of, point_at, longest, cycle}
use Rattle.scan_model.specs.Response.{observed}
use Rattle.scan_model.specs.NetValue.{net_value}
use Rattle.scan_model.specs.Suspect.{observed_net}
use Rattle.scan_model.proofs.counting.Shown.{observed_good, observed_net-in_range}
use Rattle.scan_model.proofs.counting.ChainSteps.{IsOutside, outside_shows_net, shift_outside}
use Rattle.lane_rows.specs.GoodRows.{pattern_of, same_kind}
use Rattle.packed_sim.specs.declared.good.PackedGood.{PackedGood}
use Rattle.packed_sim.specs.declared.scratch.Scratch.{Scratch}
use Rattle.packed_sim.specs.PackedParts.{BelongsTo, good_at, now_at, captures}
use Rattle.packed_sim.specs.ChainLoads.{IsLoaded}
use Rattle.packed_sim.specs.Changes.{IsChange}
use Rattle.packed_sim.proofs.Belonging.{good_is, observed_live}
use Rattle.packed_sim.proofs.CellPlaces.{point_of_cell}
use Rattle.packed_sim.proofs.FaultBits.{kinds, and_false}

-- what a value became
pub xor_back : (old new change : Tri) → change ≡ tri_xor old new → IsChange old change new
xor_back old new change is known = ap (tri_xor old) is ∙ back old new known
  where
    back : (x y : Tri) → is_unknown x ≡ false → tri_xor x (tri_xor x y) ≡ y
    back Zero Zero k = refl
    back Zero One k = refl
    back Zero Unknown k = refl
    back One Zero k = refl
    back One One k = refl
    back One Unknown k = refl
    back Unknown y k = absurd cc

pub xor_still : (old new change : Tri) → change ≡ Zero → new ≡ old → IsChange old change new
xor_still old new change is same known = ap (tri_xor old) is ∙ still old known ∙ sym same
  where
    still : (x : Tri) → is_unknown x ≡ false → tri_xor x Zero ≡ x
    still Zero k = refl
    still One k = refl
    still Unknown k = absurd cc

-- each point of a test has a number
pub point_stands : (t : ScanTest) (p : Point) → IsPoint t p → (k : ℕ) × (k < length (points_of t)) × (point_at t k ≡ p)
point_stands t (Output k) is =
    let front = map (λ m. Output m) (range_with_len 0 (length t.netlist.outputs)) in
    let rest = flat_map (λ m. cycle m 0 t.chains) (range_with_len 0 (longest t.chains)) in
    let count : length front ≡ length t.netlist.outputs = length-map-range_with_len (λ m. Output m) 0 (length t.netlist.outputs) in
    (k, omega (arith, length-append front rest, is), get_or_append_left front rest (Output 0) k (omega (arith, is)) ∙ get_or-map-range_with_len (λ m. Output m) 0 (length t.netlist.outputs) k k (Output 0) is (omega arith))
point_stands t (Cell h i) is = point_of_cell t h i is.0 is.1

module _ (t : ScanTest) (sound : IsScanTest t) (g : PackedGood) (belongs : BelongsTo t g) (h c : ℕ) (K : CellKind) (s : Scratch) (b j : ℕ) (p : Point)
    (block_lt : b < length g.rows) (lane_lt : j < 512) (there : pattern_of b j < length t.patterns) (is_point : IsPoint t p) (outside : IsOutside h p) (loaded : IsLoaded t g b h c K s) where
  abbrev w : ℕ
  w = pattern_of b j

  abbrev o : ℕ
  o = observed_net t p

  abbrev f : Fault
  f = fault.Cell h c K

  off : (pattern_at t w).kind ≡ Shift → captures t w ≡ false
  off shift = ap (λ (k : PatternKind). ltb w (length t.patterns) && same_kind Capture k) shift ∙ and_false (ltb w (length t.patterns))

  on : (pattern_at t w).kind ≡ Capture → captures t w ≡ true
  on capture = ap (λ (x : Bool). x && same_kind Capture (pattern_at t w).kind) (lt-ltb w (length t.patterns) there) ∙ ap (same_kind Capture) capture

  now_is : (pattern_at t w).kind ≡ Capture → now_at g s b j o ≡ observed t (Some f) w p
  now_is capture =
      let k = point_stands t p is_point in
      let live : belongs.built.wired.live o ≡ true = ap (λ (x : Point). belongs.built.wired.live (observed_net t x)) (sym k.2) ∙ observed_live t sound g belongs.built k.0 k.1 in
      loaded.nets belongs.built.wired.live belongs.built.wired.covers belongs.built.wired.up o j (observed_net-in_range t sound p is_point) live lane_lt (on capture)
      ∙ sym (outside_shows_net t sound w h K c p is_point capture outside)

  was_is : (pattern_at t w).kind ≡ Capture → good_at g b j o ≡ observed t None w p
  was_is capture = good_is t g belongs b j o block_lt lane_lt (observed_net-in_range t sound p is_point) (on capture) ∙ sym (observed_good t sound w p is_point capture)

  -- a point outside the chain shows the change of its net where the pattern captures, and none where it only shifts
  pub outside_change : (x change : Tri) (lane_on : Bool) → lane_on ≡ captures t w → x ≡ cond lane_on change Zero → change ≡ tri_xor (good_at g b j o) (now_at g s b j o)
      → IsChange (observed t None w p) x (observed t (Some f) w p)
  outside_change x change lane_on lane_is x_is change_is = elim (kinds (pattern_at t w).kind) [
    | inl capture ↦ xor_back (observed t None w p) (observed t (Some f) w p) x
        (x_is ∙ ap (λ (y : Bool). cond y change Zero) (lane_is ∙ on capture) ∙ change_is ∙ ap (λ (v : Tri). tri_xor v (now_at g s b j o)) (was_is capture) ∙ ap (tri_xor (observed t None w p)) (now_is capture))
    | inr shift ↦ xor_still (observed t None w p) (observed t (Some f) w p) x (x_is ∙ ap (λ (y : Bool). cond y change Zero) (lane_is ∙ off shift)) (shift_outside t sound w h K c p shift outside)
  ]

  pub outside_same : now_at g s b j o ≡ good_at g b j o → observed t (Some f) w p ≡ observed t None w p
  outside_same same = elim (kinds (pattern_at t w).kind) [
    | inl capture ↦ sym (now_is capture) ∙ same ∙ was_is capture
    | inr shift ↦ shift_outside t sound w h K c p shift outside
  ]
