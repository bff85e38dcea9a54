use Rattle.std.proofs.Common.{◌≡◌, List, get_or, map, ap, sym, ◌∙◌, arith}
use Rattle.std.proofs.lemmas.List.{get_or_default}
use Rattle.scan_model.specs.declared.parts.Point.{Point}
use Rattle.scan_model.specs.declared.parts.Point.TheVariants.{Output}
use Rattle.scan_model.specs.Values.{are_opposite, xor_of}
use Rattle.lane_rows.specs.Lanes.{lane}
use Rattle.lane_rows.specs.Planes.{Planes, held}
use Rattle.lane_rows.specs.Sources.{no_planes}
use Rattle.packed_sim.proofs.FaultBits.{and_when}
use Rattle.compact_points.specs.Compaction.{members}
use Rattle.compact_points.proofs.PointsThere.{point_is_there}
use Rattle.chain_compactor.specs.Flips.{members_at}
use Rattle.chain_compactor.specs.CompactCounts.{expected_at}
use Rattle.chain_compactor.proofs.counts.CompactCounts.differing_row.Goals as goal

pub differing-differs-requires-clause-point : goal.differing-differs-requires-clause-point
differing-differs-requires-clause-point g c =
    let o = c.args.self.now in
    rw (c.as_slice.ensures, c.in_order.ensures) (point_is_there o.parts.now o.compact.now o.made c.args.place c.requires.place)

pub returns : goal.returns
returns g c = λ j lt.
    let o = c.args.self.now in
    let t = o.parts.now in
    let k = o.compact.now in
    let q = c.args.place in
    let good = g.C.Changes.good c.args.changes.now j in
    let shown = g.C.Changes.shown c.args.changes.now j in
    let row = c.index-self-place.result in
    let behind = members t k (get_or c.as_slice.result.now q (Output 0)) in
    let point : behind ≡ members_at t k q = ap (λ (ps : List Point). members t k (get_or ps q (Output 0))) (c.as_slice.ensures ∙ c.in_order.ensures) in
    let read : get_or o.expected.now q row ≡ expected_at o.expected.now q = get_or_default o.expected.now q row no_planes (omega (arith, c.requires.place, o.expected_right.len)) in
    c.and.ensures j lt
    ∙ and_when (lane c.args.lanes j) (lane c.differing-differs.result j) (are_opposite (xor_of (map good (members_at t k q))) (xor_of (map shown (members_at t k q))))
    (λ on. c.differing-differs.ensures j lt (c.requires.tells j lt on) (ap (λ (x : Planes). held x j) read ∙ c.requires.good q j c.requires.place lt on ∙ ap (λ (ps : List Point). xor_of (map good ps)) (sym point))
    ∙ ap (λ (ps : List Point). are_opposite (xor_of (map good ps)) (xor_of (map shown ps))) point)
