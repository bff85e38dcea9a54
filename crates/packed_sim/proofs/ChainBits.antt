-- The bits of a word at which a fault of a shift path predicts a fail.
use Rattle.std.proofs.Common.{◌≡◌, ℕ, ◌<◌, Bool, true, false, cond, ltb, ◌&&◌, ◌||◌, length, None, Some, refl, sym, ap, ◌∙◌, inl, inr}
use Rattle.std.proofs.lemmas.Bool.{cases_Bool, lt-ltb}
use Rattle.scan_model.specs.declared.values.Tri.{Tri}
use Rattle.scan_model.specs.declared.parts.PatternKind.{PatternKind}
use Rattle.scan_model.specs.declared.parts.PatternKind.TheVariants.{Capture, Shift}
use Rattle.scan_model.specs.declared.parts.Point.TheVariants.{Cell}
use Rattle.scan_model.specs.declared.fault.CellKind.{CellKind}
use Rattle.scan_model.specs.declared.fault.Fault.TheVariants as fault
use Rattle.scan_model.specs.Values.{are_opposite}
use Rattle.scan_model.specs.ScanTest.{ScanTest, IsScanTest, IsPoint, chain_at, pattern_at, points_of, point_at}
use Rattle.scan_model.specs.ChainShift.{value_at}
use Rattle.scan_model.specs.Loads.{cell}
use Rattle.scan_model.specs.NetValue.{good_value, net_value}
use Rattle.scan_model.specs.Coverage.{bit_of}
use Rattle.scan_model.specs.Response.{predicts_fail, observed}
use Rattle.scan_model.specs.Response as response
use Rattle.scan_model.specs.Faults.{unloaded}
use Rattle.scan_model.specs.Suspect.{observed_net}
use Rattle.scan_model.proofs.counting.Shown.{not_opposite_itself, point_at-IsPoint, predicts_fail-is, observed_good, observed_net-in_range}
use Rattle.scan_model.proofs.counting.ChainSteps.{IsOutside, outside_shows_net, shift_outside}
use Rattle.lane_rows.specs.GoodRows.{pattern_of, same_kind}
use Rattle.packed_sim.specs.declared.good.PackedGood.{PackedGood}
use Rattle.packed_sim.specs.declared.scratch.Scratch.{Scratch}
use Rattle.packed_sim.specs.PackedParts.{BelongsTo, good_at, now_at, observed_at, captures}
use Rattle.packed_sim.specs.ChainLoads.{IsLoaded}
use Rattle.packed_sim.proofs.Belonging.{good_is, observed_in_range, observed_live}
use Rattle.packed_sim.proofs.Loading.{good_load}
use Rattle.packed_sim.proofs.FaultBits.{kinds, and_false}

module _ (t : ScanTest) (sound : IsScanTest t) (g : PackedGood) (belongs : BelongsTo t g) (h c : ℕ) (K : CellKind) where
  -- a point outside the chain shows its net where the pattern captures, and nothing where it only shifts
  pub outside_bit : (w k : ℕ) → k < length (points_of t) → IsOutside h (point_at t k) → (x : Bool)
      → (captures t w ≡ true → x ≡ are_opposite (good_value t w (observed_at t k)) (net_value t (Some (fault.Cell h c K)) w (observed_at t k)))
      → (captures t w && x) ≡ (ltb w (length t.patterns) && predicts_fail t (fault.Cell h c K) (bit_of w k))
  outside_bit w k lt outside x shows =
      let f = fault.Cell h c K in
      let p = point_at t k in
      let is_point = point_at-IsPoint t sound k lt in
      let P = predicts_fail t f (bit_of w k) in
      let kind = (pattern_at t w).kind in
      elim (cases_Bool (ltb w (length t.patterns))) [
        | inl there ↦ elim (kinds kind) [
          | inl capture ↦
              let is : captures t w ≡ true = ap (λ (b : Bool). b && same_kind Capture kind) there ∙ ap (same_kind Capture) capture in
              let predicts : P ≡ are_opposite (good_value t w (observed_net t p)) (net_value t (Some f) w (observed_net t p)) = predicts_fail-is t sound f w k lt
              ∙ ap (λ (v : Tri). are_opposite v (observed t (Some f) w p)) (observed_good t sound w p is_point capture)
              ∙ ap (are_opposite (good_value t w (observed_net t p))) (outside_shows_net t sound w h K c p is_point capture outside) in
              ap (λ (b : Bool). b && x) is ∙ shows is ∙ sym predicts ∙ sym (ap (λ (b : Bool). b && P) there)
          | inr shift ↦
              let no : captures t w ≡ false = ap (λ (k' : PatternKind). ltb w (length t.patterns) && same_kind Capture k') shift ∙ and_false (ltb w (length t.patterns)) in
              let none : P ≡ false = predicts_fail-is t sound f w k lt ∙ ap (are_opposite (observed t None w p)) (shift_outside t sound w h K c p shift outside) ∙ not_opposite_itself (observed t None w p) in
              ap (λ (b : Bool). b && x) no ∙ sym (ap (λ (b : Bool). ltb w (length t.patterns) && b) none ∙ and_false (ltb w (length t.patterns)))
        ]
        | inr gone ↦ ap (λ (b : Bool). (b && same_kind Capture kind) && x) gone ∙ sym (ap (λ (b : Bool). b && P) gone)
      ]

  pub outside_lane : (s : Scratch) (b j k : ℕ) → b < length g.rows → k < length (points_of t) → j < 512 → IsOutside h (point_at t k) → IsLoaded t g b h c K s
      → (captures t (pattern_of b j) && are_opposite (good_at g b j (observed_at t k)) (now_at g s b j (observed_at t k))) ≡ (ltb (pattern_of b j) (length t.patterns) && predicts_fail t (fault.Cell h c K) (bit_of (pattern_of b j) k))
  outside_lane s b j k block_lt in_points lane_lt outside loaded =
      let w = pattern_of b j in
      let o = observed_at t k in
      let o_lt = observed_in_range t sound g belongs.built k in_points in
      outside_bit w k in_points outside (are_opposite (good_at g b j o) (now_at g s b j o)) (λ captured.
      ap (λ (v : Tri). are_opposite v (now_at g s b j o)) (good_is t g belongs b j o block_lt lane_lt o_lt captured)
      ∙ ap (are_opposite (good_value t w o)) (loaded.nets belongs.built.wired.live belongs.built.wired.covers belongs.built.wired.up o j o_lt (observed_live t sound g belongs.built k in_points) lane_lt captured))

pub both_kinds : (there : Bool) (k : PatternKind) → ((there && same_kind Capture k) || (there && same_kind Shift k)) ≡ there
both_kinds true Capture = refl
both_kinds true Shift = refl
both_kinds false k = refl

module _ (t : ScanTest) (sound : IsScanTest t) (g : PackedGood) (belongs : BelongsTo t g) (b : ℕ) (block_lt : b < length g.rows) (h : ℕ) (h_lt : h < length t.chains) where
  -- what a position shows without a fault
  pub expected_is : (i j : ℕ) (p : Bool) (x captured loaded : Tri) → i < length (chain_at t h).cells → j < 512 → pattern_of b j < length t.patterns → p ≡ captures t (pattern_of b j)
      → captured ≡ good_at g b j (observed_net t (Cell h i)) → loaded ≡ good_at g b j (cell t h i) → x ≡ cond p captured loaded → x ≡ observed t None (pattern_of b j) (Cell h i)
  expected_is i j p x captured loaded lt lane_lt w_lt p_is captured_is loaded_is x_is =
      let w = pattern_of b j in
      let is_point : IsPoint t (Cell h i) = (h_lt, lt) in
      elim (kinds (pattern_at t w).kind) [
        | inl capture ↦
            let is : captures t w ≡ true = ap (λ (y : Bool). y && same_kind Capture (pattern_at t w).kind) (lt-ltb w (length t.patterns) w_lt) ∙ ap (same_kind Capture) capture in
            x_is ∙ ap (λ (y : Bool). cond y captured loaded) (p_is ∙ is) ∙ captured_is
            ∙ good_is t g belongs b j (observed_net t (Cell h i)) block_lt lane_lt (observed_net-in_range t sound (Cell h i) is_point) is
            ∙ sym (observed_good t sound w (Cell h i) is_point capture)
        | inr shift ↦
            let off : p ≡ false = p_is ∙ ap (λ (k : PatternKind). ltb w (length t.patterns) && same_kind Capture k) shift ∙ and_false (ltb w (length t.patterns)) in
            x_is ∙ ap (λ (y : Bool). cond y captured loaded) off ∙ loaded_is ∙ good_load t sound g belongs b block_lt h h_lt i j lt lane_lt w_lt
            ∙ sym (ap (λ (k : PatternKind). value_at (unloaded None h (response.held t None k w h)) i) shift)
      ]
