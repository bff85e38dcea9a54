use Rattle.std.proofs.Common.{◌≡◌, ℕ, eqb, List, length, get_or, ap, ◌∙◌, arith}
use Rattle.std.specs.Prelude.{sum_by}
use Rattle.std.proofs.lemmas.List.{get_or_default}
use Rattle.scan_model.specs.declared.circuit.Pin.{Pin}
use Rattle.scan_model.specs.declared.circuit.PinPlace.TheVariants as place
use Rattle.scan_model.specs.ScanTest.{points_of}
use Rattle.scan_model.specs.Netlist.{Netlist, no_pin, pin_at}
use Rattle.packed_sim.specs.PackedParts.{points_of_net, observed_at}
use Rattle.match_counts.specs.Flips.{pin_lanes}
use Rattle.fault_effects.proofs.NetPoints.{filtered}
use Rattle.match_counts.proofs.FlipSums.{points_few}
use Rattle.match_counts.proofs.PinShares.{pin_shown}
use Rattle.match_counts.proofs.point_counts.PointCounts.count_pin.Goals as goal

abbrev read_pin : Pin
read_pin = record { net = 0; place = place.Operand 0 0 }

pub count_points-requires-clause-points : goal.count_points-requires-clause-points
count_points-requires-clause-points c =
    let t = c.args.self.now.parts.now in
    rw c.points_of_net-points.ensures (λ k d lt. omega (arith, c.args.self.now.rows_len, (filtered (λ x. eqb (observed_at t x) (get_or c.as_slice.result.now c.args.pin read_pin).net) 0 (length (points_of t)) k d lt).0))

pub count_points-requires-clause-few : goal.count_points-requires-clause-few
count_points-requires-clause-few c = rw c.points_of_net-points.ensures (omega (arith, points_few c.args.self.now.parts.now (get_or c.as_slice.result.now c.args.pin read_pin).net, c.points.ensures.few))

pub returns : goal.returns
returns c = λ side.
    let t = c.args.self.now.parts.now in
    let rows = c.args.self.now.rows.now in
    let p = c.args.pin in
    let mask = c.args.lanes in
    let pins : c.as_slice.result.now ≡ t.netlist.pins = c.as_slice.ensures ∙ c.pins.ensures.value ∙ ap (λ (n : Netlist). n.pins) c.circuit.ensures.value in
    let at = get_or c.as_slice.result.now p read_pin in
    let at_is : at ≡ pin_at t.netlist p = get_or_default c.as_slice.result.now p read_pin no_pin (omega (arith, ap length pins, c.requires.pin)) ∙ ap (λ (ps : List Pin). get_or ps p no_pin) pins in
    c.count_points.ensures side
    ∙ ap (λ (ps : List ℕ). sum_by (pin_lanes t rows side at.place mask) ps) c.points_of_net-points.ensures
    ∙ ap (λ (x : Pin). sum_by (pin_lanes t rows side x.place mask) (points_of_net t x.net)) at_is
    ∙ pin_shown t c.circuit.ensures.fits rows c.args.self.now.rows_len p c.requires.pin mask side
