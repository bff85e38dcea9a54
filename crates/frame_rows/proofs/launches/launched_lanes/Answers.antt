use Rattle.std.proofs.Common.{◌≡◌, ◌<◌, length, ap, ◌∙◌, arith}
use Rattle.scan_model.specs.declared.values.Tri.{Tri}
use Rattle.scan_model.specs.NetValue.{values_of, nothing_forced, good_value}
use Rattle.lane_rows.specs.Planes.{held}
use Rattle.lane_rows.specs.GoodRows.{pattern_of}
use Rattle.lane_rows.proofs.RowsOfTest.{captures_there, captures_kind}
use Rattle.frame_rows.specs.Frames.{changes, second_source}
use Rattle.frame_rows.proofs.SecondValues.{changes_is}
use Rattle.frame_rows.proofs.LaneReads.{lane_read}
use Rattle.frame_rows.proofs.launches.launched_lanes.Goals as goal

pub returns : goal.returns
returns c = λ b j rows next lt is.
    let t = c.args.parts.now in
    let n = c.args.net in
    let v = c.args.value in
    let w = pattern_of b j in
    let in_first : n < length c.args.first.now.values = omega (arith, c.requires.first, c.requires.net) in
    let in_second : n < length c.args.second.now.values = omega (arith, c.requires.second, c.requires.net) in
    let was : held c.index-as_slice-net.result j ≡ good_value t w n =
    lane_read c.args.first.now.values c.as_slice.result.now c.index-as_slice-net.result n j c.as_slice.ensures c.index-as_slice-net.is in_first
    ∙ rows.good j n lt c.requires.net (captures_there t w is) (captures_kind t w is) in
    let comes : held c.index-as_slice-net-2.result j ≡ values_of t.netlist (second_source t w) nothing_forced n =
    lane_read c.args.second.now.values c.as_slice-2.result.now c.index-as_slice-net-2.result n j c.as_slice-2.ensures c.index-as_slice-net-2.is in_second
    ∙ next.value j n lt c.requires.net is in
    c.changing.ensures j lt
    ∙ ap (λ (x : Tri). changes v x (held c.index-as_slice-net-2.result j)) was
    ∙ ap (changes v (good_value t w n)) comes
    ∙ changes_is t c.circuit.ensures.fits c.order.result.now (rw c.circuit.ensures.value at c.order.ensures) w v n c.requires.net
