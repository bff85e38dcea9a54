use Rattle.std.proofs.Common.{◌≡◌, ◌∙◌, ℕ, ◌/◌, ◌%◌, ◌<◌, List, [], length, get_or, None, sym, ap, arith}
use Rattle.std.proofs.lemmas.List.{get_or_default, get_or-map, length-map}
use Rattle.std.proofs.lemmas.List.FromFn.{get_or-map-range_with_len}
use Rattle.scan_model.specs.declared.values.Tri.{Tri}
use Rattle.scan_model.specs.declared.values.Tri.TheVariants.{Unknown}
use Rattle.scan_model.specs.declared.parts.Point.TheVariants.{Output}
use Rattle.scan_model.specs.ChainShift.{value_at}
use Rattle.scan_model.specs.ScanTest.{points_of, point_at}
use Rattle.scan_model.specs.Suspect.{observed_net}
use Rattle.scan_model.specs.NetValue.{values_of, nothing_forced}
use Rattle.scan_model.proofs.counting.Shown.{point_at-IsPoint}
use Rattle.lane_rows.specs.Planes.{Planes, held}
use Rattle.lane_rows.specs.Sources.{lane_values, no_planes}
use Rattle.lane_rows.specs.GoodRows.{pattern_of, no_block}
use Rattle.frame_rows.specs.Frames.{second_source}
use Rattle.two_frame.specs.TwoFrame.{frame_observed, frame_response}
use Rattle.two_frame.proofs.BlockReads.{values_read, second_values, net_read}
use Rattle.two_frame.proofs.FrameResponses.{net_shows, length-frame_rows}
use Rattle.two_frame.proofs.expected.FramePointsResponseRows.row.Goals as goal

pub bounds-blocks-block : goal.bounds-blocks-block
bounds-blocks-block c =
    let t = c.args.self.now.parts.now in
    omega (arith, ap length c.blocks-2.ensures, c.requires.ready.0.second.count, c.requires.block, length-frame_rows t)

pub offset_bounds-blocks-block : goal.offset_bounds-blocks-block
offset_bounds-blocks-block c =
    let inside = bounds-blocks-block c in
    omega (arith, inside, c.blocks-2.type_inv.1)

pub bounds-values-net : goal.bounds-values-net
bounds-values-net c =
    let t = c.args.self.now.parts.now in
    let rows = c.args.self.now.good.now.second.rows in
    let b = c.args.block in
    let nets = c.observed.result.now in
    let b_lt : b < length rows = omega (arith, c.requires.ready.0.second.count, c.requires.block, length-frame_rows t) in
    let read = values_read rows c.blocks-2.result.now c.index-blocks-block.result c.as_slice-values.result.now b c.blocks-2.ensures c.as_slice-values.ensures b_lt in
    let in_nets : c.args.place < length nets = omega (arith, c.requires.place, ap length c.observed.ensures, length-map (points_of t) (observed_net t)) in
    let net = net_read t c.circuit.ensures.fits nets c.observed.ensures c.args.place in_nets in
    omega (arith, ap length read, c.requires.ready.0.second.rows b b_lt, net.1)

pub returns : goal.returns
returns c = λ j lane_in there.
    let t = c.args.self.now.parts.now in
    let sound = c.circuit.ensures.fits in
    let rows = c.args.self.now.good.now.second.rows in
    let b = c.args.block in
    let k = c.args.place in
    let w = pattern_of b j in
    let nets = c.observed.result.now in
    let in_patterns : w < length t.patterns = omega (arith, there, length-frame_rows t) in
    let in_block : w / 512 ≡ b = omega arith in
    let in_lane : w % 512 ≡ j = omega arith in
    let b_lt : b < length rows = omega (arith, c.requires.ready.0.second.count, c.requires.block, length-frame_rows t) in
    let values = c.as_slice-values.result.now in
    let read : values ≡ (get_or rows b no_block).values = values_read rows c.blocks-2.result.now c.index-blocks-block.result values b c.blocks-2.ensures c.as_slice-values.ensures b_lt in
    let in_nets : k < length nets = omega (arith, c.requires.place, ap length c.observed.ensures, length-map (points_of t) (observed_net t)) in
    let net = net_read t sound nets c.observed.ensures k in_nets in
    let n = get_or nets k 0 in
    let inside : n < length values = omega (arith, ap length read, c.requires.ready.0.second.rows b b_lt, net.1) in
    let shown = c.index-values-net.result in
    ap (λ (p : Planes). held p j) (c.index-values-net.is ∙ get_or_default values n shown no_planes inside)
    ∙ ap (λ (l : ℕ). lane_values values l n) (sym in_lane)
    ∙ second_values t rows values w c.requires.ready.0.second c.requires.ready.1 in_patterns (read ∙ ap (λ (m : ℕ). (get_or rows m no_block).values) (sym in_block)) n net.1
    ∙ ap (λ (m : ℕ). values_of t.netlist (second_source t w) nothing_forced m) net.0
    ∙ net_shows t sound c.order.result.now (rw c.circuit.ensures.value at c.order.ensures) w (point_at t k) (point_at-IsPoint t sound k c.requires.place)
    ∙ sym (get_or-map (frame_observed t None w) (points_of t) k (Output 0) Unknown c.requires.place)
    ∙ sym (ap (λ (row : List Tri). value_at row k) (get_or-map-range_with_len (frame_response t None) 0 (length t.patterns) w w [] in_patterns (omega arith)))
