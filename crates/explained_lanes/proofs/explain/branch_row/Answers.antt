use Rattle.std.proofs.Common.{◌≡◌, ◌∙◌, get_or, sym, ap, arith}
use Rattle.std.proofs.lemmas.List.{get_or_default}
use Rattle.scan_model.specs.declared.circuit.Pin.{Pin}
use Rattle.scan_model.specs.declared.fault.Fault.TheVariants as fault
use Rattle.scan_model.specs.declared.values.Tri.{Tri}
use Rattle.scan_model.specs.Values.{are_opposite}
use Rattle.scan_model.specs.Netlist.{pin_at}
use Rattle.scan_model.specs.NetValue.{good_value}
use Rattle.scan_model.specs.Faults.{stuck_value}
use Rattle.scan_model.specs.Suspect.{place_reaches}
use Rattle.lane_rows.specs.Lanes.{lane}
use Rattle.lane_rows.specs.Planes.{Planes, held}
use Rattle.lane_rows.specs.Sources.{no_planes}
use Rattle.lane_rows.specs.GoodRows.{pattern_of}
use Rattle.explained_lanes.proofs.Explained.{logic_is, one_site_is, good_there}
use Rattle.explained_lanes.proofs.explain.branch_row.Goals as goal

pub place_row-reached-requires-clause-place : goal.place_row-reached-requires-clause-place
place_row-reached-requires-clause-place c = rw c.pin_of-seen.ensures.pin c.pin_of-seen.ensures.place

pub bounds-as_slice-seen : goal.bounds-as_slice-seen
bounds-as_slice-seen c = rw (c.as_slice.ensures, c.requires.values, c.pin_of-seen.ensures.pin) c.pin_of-seen.ensures.net

pub returns : goal.returns
returns c = λ b good within j lj.
    let t = c.args.parts.now in
    let p = pin_at t.netlist c.args.pin in
    let block = c.args.block.now in
    let fails = c.args.trace.now.fails in
    let w = pattern_of b j in
    let stuck = stuck_value c.args.value in
    let value = c.index-as_slice-seen.result in
    let net_is = ap (λ (x : Pin). x.net) c.pin_of-seen.ensures.pin in
    let value_is : value ≡ get_or block.values p.net no_planes = rw (c.as_slice.ensures, net_is) at c.index-as_slice-seen.is ∙ get_or_default block.values p.net value no_planes (omega (arith, c.pin_of-seen.ensures.net, c.requires.values)) in
    one_site_is t b block good fails within j lj (lane c.and.result j) (lane c.other_lanes.result j) (lane c.place_row-reached.result j) (are_opposite (good_value t w p.net) stuck) (place_reaches t p.place)
    (c.and.ensures j lj)
    (rw c.pin_of-seen.ensures.pin at (c.place_row-reached.ensures j lj))
    (λ captured. c.other_lanes.ensures j lj ∙ ap (λ (v : Tri). are_opposite v stuck) (ap (λ (x : Planes). held x j) value_is ∙ good_there t b block good fails within j lj p.net c.pin_of-seen.ensures.net captured))
    ∙ sym (logic_is t b block good fails within j lj (fault.Branch c.args.pin c.args.value) tt)
