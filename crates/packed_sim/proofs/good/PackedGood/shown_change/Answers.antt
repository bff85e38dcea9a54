use Rattle.std.proofs.Common.{◌≡◌, ℕ, List, cond, None, Some, ap, sym, subst, ◌∙◌}
use Rattle.scan_model.specs.declared.values.Tri.{Tri}
use Rattle.scan_model.specs.declared.parts.Point.{Point}
use Rattle.scan_model.specs.declared.parts.Point.TheVariants.{Cell}
use Rattle.scan_model.specs.declared.fault.Fault.TheVariants as fault
use Rattle.scan_model.specs.Values.{tri_xor}
use Rattle.scan_model.specs.ScanTest.{IsPoint}
use Rattle.scan_model.specs.Response.{observed}
use Rattle.lane_rows.specs.Lanes.{lane}
use Rattle.lane_rows.specs.Planes.{held}
use Rattle.lane_rows.specs.GoodRows.{pattern_of}
use Rattle.packed_sim.specs.PackedParts.{good_at, now_at}
use Rattle.packed_sim.specs.Changes.{IsShownChange}
use Rattle.packed_sim.proofs.Changes.{xor_back, outside_change, outside_same}
use Rattle.packed_sim.proofs.good.PackedGood.shown_change.Goals as goal

pub expected_row-expected-requires-clause-at : goal.expected_row-expected-requires-clause-at
expected_row-expected-requires-clause-at c = (subst (IsPoint c.args.parts.now) c.in-Some.ensures c.requires.point).1

pub shown-shown-requires-clause-at : goal.shown-shown-requires-clause-at
shown-shown-requires-clause-at c = (subst (IsPoint c.args.parts.now) c.in-Some.ensures c.requires.point).1

pub returns-in-Some : goal.returns-in-Some
returns-in-Some c =
    let t = c.args.parts.now in
    let b = c.args.block in
    let f = fault.Cell c.args.cell.0 c.args.cell.1 c.args.kind in
    let q : Point = Cell c.args.cell.0 c.in-Some.at in
    let at_position : IsShownChange t b f q c.xor.result = λ j lt there.
    xor_back (observed t None (pattern_of b j) q) (observed t (Some f) (pattern_of b j) q) (held c.xor.result j)
    (c.xor.ensures j lt
    ∙ ap (λ (v : Tri). tri_xor v (held c.shown-shown.result j)) (c.expected_row-expected.ensures j lt there)
    ∙ ap (tri_xor (observed t None (pattern_of b j) q)) (c.shown-shown.ensures j lt there)) in
    subst (λ (p : Point). IsShownChange t b f p c.xor.result) (sym c.in-Some.ensures) at_position

pub returns-in-Some-change : goal.returns-in-Some-change
returns-in-Some-change c = λ j lt there.
    let t = c.args.parts.now in
    let g = c.args.self.now in
    let b = c.args.block in
    let s = c.args.scratch.now in
    let on = lane c.capture-capture.result j in
    let change = held c.in-Some-change.change j in
    outside_change t c.chains.ensures.fits g c.requires.good c.args.cell.0 c.args.cell.1 c.args.kind s b j c.args.point c.requires.block lt there c.requires.point c.in-None.ensures c.requires.loaded
    (held c.pick.result j) change on
    (ap (λ (r : List ℕ). lane r j) c.capture-capture.ensures ∙ (c.requires.good.rows.each b c.requires.block).capture j lt)
    (c.pick.ensures j lt ∙ ap (cond on change) (c.all-still.ensures j lt))
    (c.in-Some-change.ensures j lt ∙ ap (λ (n : ℕ). tri_xor (good_at g b j n) (now_at g s b j n)) c.observed_net-net.ensures.value)

pub returns-in-None-change : goal.returns-in-None-change
returns-in-None-change c = λ j lt there.
    let g = c.args.self.now in
    let b = c.args.block in
    let s = c.args.scratch.now in
    outside_same c.args.parts.now c.chains.ensures.fits g c.requires.good c.args.cell.0 c.args.cell.1 c.args.kind s b j c.args.point c.requires.block lt there c.requires.point c.in-None.ensures c.requires.loaded
    (subst (λ (n : ℕ). now_at g s b j n ≡ good_at g b j n) c.observed_net-net.ensures.value (c.in-None-change.ensures j))
