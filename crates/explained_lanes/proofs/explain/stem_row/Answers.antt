use Rattle.std.proofs.Common.{◌≡◌, ◌∙◌, ℕ, List, [], length, get_or, sym, ap, arith}
use Rattle.std.proofs.lemmas.List.{get_or_default}
use Rattle.scan_model.specs.declared.fault.Fault.TheVariants as fault
use Rattle.scan_model.specs.Values.{are_opposite}
use Rattle.scan_model.specs.NetValue.{good_value}
use Rattle.scan_model.specs.Faults.{stuck_value}
use Rattle.scan_model.specs.Suspect.{net_reaches}
use Rattle.lane_rows.specs.Lanes.{lane}
use Rattle.lane_rows.specs.Planes.{Planes, held}
use Rattle.lane_rows.specs.Sources.{no_planes}
use Rattle.lane_rows.specs.GoodRows.{pattern_of}
use Rattle.scan_model.specs.declared.values.Tri.{Tri}
use Rattle.explained_lanes.proofs.Explained.{logic_is, one_site_is, good_there}
use Rattle.explained_lanes.proofs.explain.stem_row.Goals as goal

pub bounds-as_slice-at : goal.bounds-as_slice-at
bounds-as_slice-at c = omega (arith, c.requires.site, c.requires.values, ap length c.as_slice.ensures)

pub returns : goal.returns
returns c = λ b good within j lj.
    let t = c.args.parts.now in
    let n = c.args.net in
    let block = c.args.block.now in
    let fails = c.args.trace.now.fails in
    let w = pattern_of b j in
    let f = fault.Stem n c.args.value in
    let values = block.values in
    let value = c.index-as_slice-at.result in
    let value_is : value ≡ get_or values n no_planes = rw c.as_slice.ensures at c.index-as_slice-at.is ∙ get_or_default values n value no_planes (omega (arith, c.requires.site, c.requires.values)) in
    let reach = c.args.trace.now.reach in
    let row = c.row.result in
    let row_is : row ≡ get_or reach n [] = c.row.ensures in
    one_site_is t b block good fails within j lj (lane c.and.result j) (lane c.other_lanes.result j) (lane row j) (are_opposite (good_value t w n) (stuck_value c.args.value)) (net_reaches t n)
    (c.and.ensures j lj)
    (ap (λ (r : List ℕ). lane r j) row_is ∙ c.requires.trace.reach j n lj c.requires.site)
    (λ captured. c.other_lanes.ensures j lj ∙ ap (λ (v : Tri). are_opposite v (stuck_value c.args.value)) (ap (λ (p : Planes). held p j) value_is ∙ good_there t b block good fails within j lj n c.requires.site captured))
    ∙ sym (logic_is t b block good fails within j lj f tt)
