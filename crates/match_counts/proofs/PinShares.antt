-- What a pin that goes straight to a point explains and mispredicts, by the points of its net.
use Rattle.std.proofs.Common.{◌≡◌, ℕ, ◌<◌, ◌≤◌, Bool, true, false, eqb, ◌&&◌, List, length, refl, sym, ap, ◌∙◌, inl, inr, arith}
use Rattle.std.specs.Prelude.{sum_by, if◌then◌else◌}
use Rattle.std.specs.List.{range_with_len}
use Rattle.std.proofs.lemmas.Bool.{cases_Bool, eqb-true, eq-eqb, and_left, and_right}
use Rattle.scan_model.specs.Netlist.{pin_at}
use Rattle.scan_model.specs.ScanTest.{ScanTest, IsScanTest, points_of, point_at}
use Rattle.scan_model.specs.Masks.{place_is_point, point_pin}
use Rattle.scan_model.proofs.counting.Shown.{place_is_point-is, point_pin-net, point_at-IsPoint}
use Rattle.lane_rows.specs.Lanes.{lane, count_lanes}
use Rattle.lane_rows.proofs.LaneCounts.{same_lanes}
use Rattle.packed_sim.specs.PackedParts.{observed_at, points_of_net}
use Rattle.log_rows.specs.declared.point_row.PointRow.{PointRow}
use Rattle.log_rows.specs.declared.side.Side.{Side}
use Rattle.fault_effects.specs.FaultModel.{Table}
use Rattle.match_counts.specs.Flips.{pin_lanes, row_on, point_row_at}
use Rattle.match_counts.specs.Tables.{lanes_of, sum_of_table, seen_in}
use Rattle.match_counts.proofs.LaneSums.{no_lanes}
use Rattle.match_counts.proofs.FlipSums.{sum_where, sum_agree_where}

pin_bits : (r k s : Bool) → s ≡ true → (r && k) ≡ ((k && s) && r)
pin_bits true true s is = rw is refl
pin_bits true false s is = refl
pin_bits false true true is = refl
pin_bits false true false is = refl
pin_bits false false s is = refl

module _ (t : ScanTest) (sound : IsScanTest t) (rows : List PointRow) (len : length rows ≡ length (points_of t)) (p : ℕ) (in_pins : p < length t.netlist.pins) (mask : List ℕ) where
  abbrev table : Table
  table = seen_in t p mask

  abbrev sees : ℕ → Bool
  sees k = place_is_point t (pin_at t.netlist p).place (point_at t k)

  elsewhere : (side : Side) (k : ℕ) → sees k ≡ false → lanes_of rows side table k ≡ 0
  elsewhere side k other = no_lanes _ (λ j lt. and_left (table k j) (lane (row_on side (point_row_at rows k)) j) (and_right (lane mask j) (sees k) other))

  -- a point that sees the pin observes its net
  of_net : (k : ℕ) → k < length (points_of t) → eqb (observed_at t k) (pin_at t.netlist p).net ≡ false → sees k ≡ false
  of_net k lt other = elim (cases_Bool (sees k)) [
    | inl is ↦
        let point = point_at-IsPoint t sound k lt in
        let same : point_pin t (point_at t k) ≡ p = eqb-true _ _ (sym (place_is_point-is t sound p (point_at t k) in_pins point) ∙ is) in
        let net : observed_at t k ≡ (pin_at t.netlist p).net = sym (point_pin-net t sound (point_at t k) point) ∙ ap (λ (q : ℕ). (pin_at t.netlist q).net) same in
        absurd (let e : true ≡ false = sym (eq-eqb _ _ net) ∙ other in cc)
    | inr other ↦ other
  ]

  here : (side : Side) (k : ℕ) → pin_lanes t rows side (pin_at t.netlist p).place mask k ≡ lanes_of rows side table k
  here side k = elim (cases_Bool (sees k)) [
    | inr other ↦ ap (λ (x : Bool). if x then count_lanes (λ j. lane (row_on side (point_row_at rows k)) j && lane mask j) else 0) other ∙ sym (elsewhere side k other)
    | inl is ↦ ap (λ (x : Bool). if x then count_lanes (λ j. lane (row_on side (point_row_at rows k)) j && lane mask j) else 0) is ∙ same_lanes _ _ (λ j lj. pin_bits (lane (row_on side (point_row_at rows k)) j) (lane mask j) (sees k) is)
  ]

  pub pin_shown : (side : Side) → sum_by (pin_lanes t rows side (pin_at t.netlist p).place mask) (points_of_net t (pin_at t.netlist p).net) ≡ sum_of_table rows side table
  pin_shown side =
      let net = (pin_at t.netlist p).net in
      let P = length (points_of t) in
      sum_agree_where (pin_lanes t rows side (pin_at t.netlist p).place mask) (lanes_of rows side table) (λ k. eqb (observed_at t k) net) 0 P (λ k low high is. here side k)
      ∙ sym (sum_where (lanes_of rows side table) (λ k. eqb (observed_at t k) net) 0 P (λ k low high other. elsewhere side k (of_net k (omega arith) other)))
      ∙ ap (λ (n : ℕ). sum_by (lanes_of rows side table) (range_with_len 0 n)) (sym len)

pub few_if : (b : Bool) (n : ℕ) → n ≤ 512 → (if b then n else 0) ≤ 512
few_if true n few = few
few_if false n few = omega arith
