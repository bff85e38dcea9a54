-- What a pin that goes straight to a point shows, under each mask, by the points of its net.
use Rattle.std.proofs.Common.{◌≡◌, ℕ, ◌<◌, ◌≤◌, Bool, true, false, eqb, ◌&&◌, List, length, refl, sym, ap, ◌∙◌, inl, inr, arith}
use Rattle.std.specs.Prelude.{sum_by, if◌then◌else◌}
use Rattle.std.specs.List.{range_with_len}
use Rattle.std.proofs.lemmas.Bool.{cases_Bool, eqb-true, eq-eqb, and_left, and_right}
use Rattle.scan_model.specs.declared.fault.Fault.TheVariants as fault
use Rattle.scan_model.specs.declared.fault.Stuck.{Stuck}
use Rattle.scan_model.specs.Values.{are_opposite}
use Rattle.scan_model.specs.Netlist.{pin_at}
use Rattle.scan_model.specs.ScanTest.{ScanTest, IsScanTest, points_of, point_at}
use Rattle.scan_model.specs.Faults.{stuck_value}
use Rattle.scan_model.specs.NetValue.{good_value}
use Rattle.scan_model.specs.Masks.{straight, place_is_point, point_pin}
use Rattle.scan_model.proofs.counting.Shown.{place_is_point-is, point_pin-net, point_at-IsPoint}
use Rattle.lane_rows.specs.Lanes.{lane, count_lanes}
use Rattle.lane_rows.specs.GoodRows.{pattern_of, AreBlockRows}
use Rattle.lane_rows.proofs.LaneCounts.{same_lanes}
use Rattle.packed_sim.specs.declared.good.PackedGood.{PackedGood}
use Rattle.packed_sim.specs.PackedParts.{captures, block_at, observed_at, points_of_net}
use Rattle.log_rows.specs.declared.point_row.PointRow.{PointRow}
use Rattle.log_rows.specs.declared.side.Side.{Side}
use Rattle.fault_effects.specs.FaultModel.{Table, point_model, straight_in}
use Rattle.match_counts.specs.Flips.{row_on, point_row_at}
use Rattle.match_counts.specs.Tables.{lanes_of, sum_of_table}
use Rattle.match_counts.proofs.LaneSums.{no_lanes}
use Rattle.match_counts.proofs.FlipSums.{sum_where, sum_agree_where}
use Rattle.slat_view.specs.StraightPins.{shown_at}

pin_bits : (k s r m c a o : Bool) → k ≡ c → a ≡ true → (c ≡ true → s ≡ o) → (((s && k) && r) && m) ≡ (((c && (a && o)) && m) && r)
pin_bits k s r m false a o is here same = rw is (off s r m)
  where
    off : (s r m : Bool) → (((s && false) && r) && m) ≡ false
    off true r m = refl
    off false r m = refl
pin_bits k s r m true a o is here same = rw (is, here, same refl) (on o r m)
  where
    on : (o r m : Bool) → (((o && true) && r) && m) ≡ ((o && m) && r)
    on false r m = refl
    on true true true = refl
    on true true false = refl
    on true false true = refl
    on true false false = refl

module _ (t : ScanTest) (sound : IsScanTest t) (g : PackedGood) (b : ℕ) (rows : List PointRow) (block : AreBlockRows t b (block_at g b)) (len : length rows ≡ length (points_of t))
    (p : ℕ) (in_pins : p < length t.netlist.pins) (v : Stuck) (mask stuck : List ℕ)
    (masked : (j : ℕ) → j < 512 → lane mask j ≡ (lane stuck j && lane (block_at g b).capture j))
    (sees : (j : ℕ) → j < 512 → captures t (pattern_of b j) ≡ true → lane stuck j ≡ are_opposite (good_value t (pattern_of b j) (pin_at t.netlist p).net) (stuck_value v)) where
  abbrev table : Table
  table = straight_in (point_model t) b (fault.Branch p v)

  abbrev other_value : ℕ → Bool
  other_value j = are_opposite (good_value t (pattern_of b j) (pin_at t.netlist p).net) (stuck_value v)

  elsewhere : (side : Side) (m : ℕ → Bool) (k : ℕ) → place_is_point t (pin_at t.netlist p).place (point_at t k) ≡ false → lanes_of rows side (λ q j. table q j && m j) k ≡ 0
  elsewhere side m k other = no_lanes _ (λ j lt. and_left (table k j && m j) (lane (row_on side (point_row_at rows k)) j) (and_left (table k j) (m j)
      (and_right (captures t (pattern_of b j)) (straight t (fault.Branch p v) (pattern_of b j) k) (ap (λ (x : Bool). x && other_value j) other))))

  -- a point that sees the pin observes its net
  of_net : (k : ℕ) → k < length (points_of t) → eqb (observed_at t k) (pin_at t.netlist p).net ≡ false → place_is_point t (pin_at t.netlist p).place (point_at t k) ≡ false
  of_net k lt other = elim (cases_Bool (place_is_point t (pin_at t.netlist p).place (point_at t k))) [
    | inl is ↦
        let point = point_at-IsPoint t sound k lt in
        let same : point_pin t (point_at t k) ≡ p = eqb-true _ _ (sym (place_is_point-is t sound p (point_at t k) in_pins point) ∙ is) in
        let net : observed_at t k ≡ (pin_at t.netlist p).net = sym (point_pin-net t sound (point_at t k) point) ∙ ap (λ (q : ℕ). (pin_at t.netlist q).net) same in
        absurd (let e : true ≡ false = sym (eq-eqb _ _ net) ∙ other in cc)
    | inr other ↦ other
  ]

  abbrev seen : Side → (ℕ → Bool) → ℕ → ℕ
  seen side m k = count_lanes (λ j. (lane mask j && lane (row_on side (point_row_at rows k)) j) && m j)

  here : (side : Side) (m : ℕ → Bool) (k : ℕ) → shown_at t rows side (pin_at t.netlist p).place mask m k ≡ lanes_of rows side (λ q j. table q j && m j) k
  here side m k = elim (cases_Bool (place_is_point t (pin_at t.netlist p).place (point_at t k))) [
    | inr other ↦ ap (λ (x : Bool). if x then seen side m k else 0) other ∙ sym (elsewhere side m k other)
    | inl is ↦ ap (λ (x : Bool). if x then seen side m k else 0) is ∙ same_lanes _ _ (λ j lj.
        ap (λ (x : Bool). (x && lane (row_on side (point_row_at rows k)) j) && m j) (masked j lj)
        ∙ pin_bits (lane (block_at g b).capture j) (lane stuck j) (lane (row_on side (point_row_at rows k)) j) (m j) (captures t (pattern_of b j)) (place_is_point t (pin_at t.netlist p).place (point_at t k)) (other_value j)
        (block.capture j lj) is (sees j lj))
  ]

  pub straight_shown : (side : Side) (m : ℕ → Bool) → sum_by (shown_at t rows side (pin_at t.netlist p).place mask m) (points_of_net t (pin_at t.netlist p).net) ≡ sum_of_table rows side (λ q j. table q j && m j)
  straight_shown side m =
      let net = (pin_at t.netlist p).net in
      let P = length (points_of t) in
      sum_agree_where (shown_at t rows side (pin_at t.netlist p).place mask m) (lanes_of rows side (λ q j. table q j && m j)) (λ k. eqb (observed_at t k) net) 0 P (λ k low high is. here side m k)
      ∙ sym (sum_where (lanes_of rows side (λ q j. table q j && m j)) (λ k. eqb (observed_at t k) net) 0 P (λ k low high other. elsewhere side m k (of_net k (omega arith) other)))
      ∙ ap (λ (n : ℕ). sum_by (lanes_of rows side (λ q j. table q j && m j)) (range_with_len 0 n)) (sym len)
