use Rattle.std.proofs.Common.{◌≡◌, ◌&&◌, ℕ, List, Bool, ltb, length, get_or, None, Some, ap, sym, subst, ◌∙◌, arith}
use Rattle.std.proofs.lemmas.List.{get_or_read}
use Rattle.scan_model.specs.declared.parts.Point.{Point}
use Rattle.scan_model.specs.declared.parts.Point.TheVariants.{Cell}
use Rattle.scan_model.specs.declared.fault.Fault.TheVariants as fault
use Rattle.scan_model.specs.Values.{are_opposite}
use Rattle.scan_model.specs.ScanTest.{IsPoint, point_at}
use Rattle.scan_model.specs.Response.{observed}
use Rattle.scan_model.proofs.counting.Shown.{point_at-IsPoint, predicts_fail-is}
use Rattle.scan_model.proofs.counting.ChainSteps.{IsOutside}
use Rattle.lane_rows.specs.Lanes.{lane}
use Rattle.lane_rows.specs.GoodRows.{pattern_of}
use Rattle.packed_sim.specs.PackedParts.{captures, good_at, now_at, observed_at}
use Rattle.packed_sim.proofs.Belonging.{observed_is, observed_len, observed_in_range}
use Rattle.packed_sim.proofs.ChainBits.{outside_lane}
use Rattle.packed_sim.proofs.good.PackedGood.predicted_row.Goals as goal

pub position_row-requires-clause-at : goal.position_row-requires-clause-at
position_row-requires-clause-at c =
    let t = c.args.parts.now in
    let at : point_at t c.args.k ≡ Cell c.args.cell.0 c.in-Some.at = sym c.point_of-point.ensures ∙ c.in-Some.ensures in
    let is_point : IsPoint t (Cell c.args.cell.0 c.in-Some.at) = subst (IsPoint t) at (point_at-IsPoint t c.chains.ensures.fits c.args.k c.requires.point) in
    is_point.1

pub returns-in-Some : goal.returns-in-Some
returns-in-Some c j j_lt =
    let t = c.args.parts.now in
    let w = pattern_of c.args.block j in
    let f = fault.Cell c.args.cell.0 c.args.cell.1 c.args.kind in
    let at : point_at t c.args.k ≡ Cell c.args.cell.0 c.in-Some.at = sym c.point_of-point.ensures ∙ c.in-Some.ensures in
    c.position_row.ensures j j_lt
    ∙ ap (λ (b : Bool). ltb w (length t.patterns) && b) (sym (predicts_fail-is t c.chains.ensures.fits f w c.args.k c.requires.point ∙ ap (λ (p : Point). are_opposite (observed t None w p) (observed t (Some f) w p)) at))

pub difference-differs-requires-clause-scratch : goal.difference-differs-requires-clause-scratch
difference-differs-requires-clause-scratch c = c.requires.loaded.inside

pub difference-differs-requires-clause-net : goal.difference-differs-requires-clause-net
difference-differs-requires-clause-net c =
    let t = c.args.parts.now in
    let g = c.args.self.now in
    let k = c.args.k in
    let read : c.index-net.result.now ≡ get_or g.observed.items k 0 = get_or_read g.observed.items k c.index-net.result.now (omega (arith, observed_len t c.chains.ensures.fits g c.requires.good.built, c.requires.point)) c.index-net.ensures 0 in
    omega (arith, read, observed_is t c.chains.ensures.fits g c.requires.good.built k c.requires.point, observed_in_range t c.chains.ensures.fits g c.requires.good.built k c.requires.point)

pub returns-in-None : goal.returns-in-None
returns-in-None c j j_lt =
    let t = c.args.parts.now in
    let g = c.args.self.now in
    let k = c.args.k in
    let b = c.args.block in
    let w = pattern_of b j in
    let read : c.index-net.result.now ≡ get_or g.observed.items k 0 = get_or_read g.observed.items k c.index-net.result.now (omega (arith, observed_len t c.chains.ensures.fits g c.requires.good.built, c.requires.point)) c.index-net.ensures 0 in
    let net_is : c.index-net.result.now ≡ observed_at t k = read ∙ observed_is t c.chains.ensures.fits g c.requires.good.built k c.requires.point in
    let outside : IsOutside c.args.cell.0 (point_at t k) = subst (IsOutside c.args.cell.0) c.point_of-point.ensures c.in-None.ensures in
    c.and.ensures j j_lt
    ∙ ap (λ (x : Bool). x && lane c.difference-differs.result j) (ap (λ (r : List ℕ). lane r j) c.capture-capture.ensures ∙ (c.requires.good.rows.each b c.requires.block).capture j j_lt)
    ∙ ap (λ (x : Bool). captures t w && x) (c.difference-differs.ensures j j_lt)
    ∙ ap (λ (n : ℕ). captures t w && are_opposite (good_at g b j n) (now_at g c.args.scratch.now b j n)) net_is
    ∙ outside_lane t c.chains.ensures.fits g c.requires.good c.args.cell.0 c.args.cell.1 c.args.kind c.args.scratch.now b j k c.requires.block c.requires.point j_lt outside c.requires.loaded
