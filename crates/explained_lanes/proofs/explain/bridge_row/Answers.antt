use Rattle.std.proofs.Common.{◌≡◌, ◌∙◌, ℕ, ◌&&◌, Bool, true, false, List, [], length, get_or, sym, ap, arith}
use Rattle.std.proofs.lemmas.List.{get_or_default}
use Rattle.scan_model.specs.declared.fault.Fault.TheVariants as fault
use Rattle.scan_model.specs.declared.parts.Point.{Point}
use Rattle.scan_model.specs.declared.values.Tri.{Tri}
use Rattle.scan_model.specs.Values.{are_opposite}
use Rattle.scan_model.specs.NetValue.{good_value}
use Rattle.scan_model.specs.Faults.{bridged, takes}
use Rattle.scan_model.specs.Suspect.{net_reaches}
use Rattle.lane_rows.specs.Lanes.{lane}
use Rattle.lane_rows.specs.Planes.{Planes, held}
use Rattle.lane_rows.specs.Sources.{no_planes}
use Rattle.lane_rows.specs.GoodRows.{pattern_of}
use Rattle.explained_lanes.proofs.Explained.{logic_is, one_site_is, two_sites_are, good_there, bridged_same}
use Rattle.explained_lanes.proofs.explain.bridge_row.Goals as goal

pub bounds-values-a : goal.bounds-values-a
bounds-values-a c = omega (arith, c.requires.site.0, c.requires.values, ap length c.as_slice-values.ensures)

pub bounds-values-b : goal.bounds-values-b
bounds-values-b c = omega (arith, c.requires.site.1, c.requires.values, ap length c.as_slice-values.ensures)

pub returns : goal.returns
returns c = λ index good within j lj.
    let t = c.args.parts.now in
    let a = c.args.a in
    let b = c.args.b in
    let kind = c.args.kind in
    let block = c.args.block.now in
    let fails = c.args.trace.now.fails in
    let w = pattern_of index j in
    let values = block.values in
    let va = c.index-values-a.result in
    let vb = c.index-values-b.result in
    let va_is : va ≡ get_or values a no_planes = rw c.as_slice-values.ensures at c.index-values-a.is ∙ get_or_default values a va no_planes (omega (arith, c.requires.site.0, c.requires.values)) in
    let vb_is : vb ≡ get_or values b no_planes = rw c.as_slice-values.ensures at c.index-values-b.is ∙ get_or_default values b vb no_planes (omega (arith, c.requires.site.1, c.requires.values)) in
    let reach = c.args.trace.now.reach in
    let ra = c.row.result in
    let rb = c.row-2.result in
    let ra_is : ra ≡ get_or reach a [] = c.row.ensures in
    let rb_is : rb ≡ get_or reach b [] = c.row-2.ensures in
    let taken = takes kind true false in
    let x = bridged kind (good_value t w a) (good_value t w b) in
    let a_good : lane block.capture j ≡ true → held va j ≡ good_value t w a = λ captured. ap (λ (p : Planes). held p j) va_is ∙ good_there t index block good fails within j lj a c.requires.site.0 captured in
    let b_good : lane block.capture j ≡ true → held vb j ≡ good_value t w b = λ captured. ap (λ (p : Planes). held p j) vb_is ∙ good_there t index block good fails within j lj b c.requires.site.1 captured in
    let both_good : lane block.capture j ≡ true → held c.value-both.result j ≡ x = λ captured. c.value-both.ensures j lj ∙ bridged_same kind (held va j) (held vb j) (good_value t w a) (good_value t w b) (a_good captured) (b_good captured) in
    two_sites_are t index block good fails within j lj (lane c.or.result j) (lane c.and-by_first.result j) (lane c.and-by_second.result j)
    (λ (p : Point). (taken && are_opposite (good_value t w a) x) && net_reaches t a p) (λ (p : Point). are_opposite (good_value t w b) x && net_reaches t b p)
    (c.or.ensures j lj)
    (one_site_is t index block good fails within j lj (lane c.and-by_first.result j) (lane c.flipped_lanes-first_flips.result j) (lane ra j) (taken && are_opposite (good_value t w a) x) (net_reaches t a)
    (c.and-by_first.ensures j lj)
    (ap (λ (r : List ℕ). lane r j) ra_is ∙ c.requires.trace.reach j a lj c.requires.site.0)
    (λ captured. c.flipped_lanes-first_flips.ensures j lj ∙ ap (λ (y : Bool). y && are_opposite (held va j) (held c.value-both.result j)) c.takes.ensures
    ∙ ap (λ (v : Tri). taken && are_opposite v (held c.value-both.result j)) (a_good captured) ∙ ap (λ (v : Tri). taken && are_opposite (good_value t w a) v) (both_good captured)))
    (one_site_is t index block good fails within j lj (lane c.and-by_second.result j) (lane c.opposite.result j) (lane rb j) (are_opposite (good_value t w b) x) (net_reaches t b)
    (c.and-by_second.ensures j lj)
    (ap (λ (r : List ℕ). lane r j) rb_is ∙ c.requires.trace.reach j b lj c.requires.site.1)
    (λ captured. c.opposite.ensures j lj ∙ ap (λ (v : Tri). are_opposite v (held c.value-both.result j)) (b_good captured) ∙ ap (λ (v : Tri). are_opposite (good_value t w b) v) (both_good captured)))
    ∙ sym (logic_is t index block good fails within j lj (fault.Bridge a b kind) tt)
