use Rattle.std.proofs.Common.{◌≡◌, ℕ, ◌+◌, ◌<◌, Bool, eqb, ◌&&◌, List, [], length, get_or, ap, sym, ◌∙◌, arith}
use Rattle.std.specs.Prelude.{sum_by}
use Rattle.std.proofs.Math.Nat.{zero-add}
use Rattle.std.proofs.lemmas.List.{get_or_default}
use Rattle.scan_model.specs.ScanTest.{points_of}
use Rattle.scan_model.specs.Values.{are_opposite}
use Rattle.scan_model.specs.Netlist.{Netlist, pin_at}
use Rattle.scan_model.specs.Faults.{stuck_value}
use Rattle.scan_model.specs.NetValue.{good_value}
use Rattle.lane_rows.specs.declared.block.Block.{Block}
use Rattle.lane_rows.specs.Lanes.{lane}
use Rattle.lane_rows.specs.GoodRows.{no_block, pattern_of}
use Rattle.packed_sim.specs.PackedParts.{block_at, points_of_net, observed_at}
use Rattle.fault_effects.proofs.NetPoints.{filtered}
use Rattle.log_rows.specs.declared.side.Side.{Side}
use Rattle.log_rows.specs.declared.side.Side.TheVariants.{Failing, Passing}
use Rattle.match_counts.specs.declared.flip_rows.FlipRows.{FlipRows}
use Rattle.match_counts.specs.Flips.{tallied, list_on}
use Rattle.slat_view.specs.StraightPins.{shown_at}
use Rattle.slat_view.proofs.PinTables.{straight_shown}
use Rattle.slat_view.proofs.straight.shown_straight.Goals as goal

none_shown : (shown : FlipRows) (m : ℕ → Bool) → shown.failing.items ≡ [] → shown.passing.items ≡ [] → (x : Side) → tallied (list_on x shown) m ≡ 0
none_shown shown m failing passing Failing = ap (λ (rows : List (List ℕ)). tallied rows m) failing
none_shown shown m failing passing Passing = ap (λ (rows : List (List ℕ)). tallied rows m) passing

pub show_points-requires-clause-points : goal.show_points-requires-clause-points
show_points-requires-clause-points c =
    let t = c.args.counts.now.parts.now in
    rw c.points_of_net-points.ensures (λ k d lt. omega (arith, c.args.counts.now.rows_len, (filtered (λ x. eqb (observed_at t x) c.net_of_pin-net.result) 0 (length (points_of t)) k d lt).0))

pub returns : goal.returns
returns c = λ side m.
    let t = c.args.counts.now.parts.now in
    let g = c.args.counts.now.good.now in
    let b = c.args.counts.now.block in
    let rows = c.args.counts.now.rows.now in
    let p = c.args.pin in
    let place = (pin_at t.netlist p).place in
    let mask = c.and-mask.result in
    let stuck = c.stuck_mask.result in
    let net : c.net_of_pin-net.result ≡ (pin_at t.netlist p).net = c.net_of_pin-net.ensures.value ∙ ap (λ (n : Netlist). (pin_at n p).net) c.circuit.ensures.value in
    let found = get_or c.blocks-2.result.now b c.index-blocks-counts.result in
    let block : found ≡ block_at g b = get_or_default c.blocks-2.result.now b c.index-blocks-counts.result no_block (omega (arith, ap length c.blocks-2.ensures, c.args.counts.now.block_within)) ∙ ap (λ (bs : List Block). get_or bs b no_block) c.blocks-2.ensures in
    let none : (x : Side) → tallied (list_on x c.new-shown.result) m ≡ 0 = none_shown c.new-shown.result m c.new-shown.ensures.failing c.new-shown.ensures.passing in
    c.in_ok-show_points.ensures side m
    ∙ ap (λ (n : ℕ). n + sum_by (shown_at t rows side place mask m) c.points_of_net-points.result.now) (none side)
    ∙ ap (λ (ps : List ℕ). 0 + sum_by (shown_at t rows side place mask m) ps) c.points_of_net-points.ensures
    ∙ ap (λ (n : ℕ). 0 + sum_by (shown_at t rows side place mask m) (points_of_net t n)) net
    ∙ zero-add _
    ∙ straight_shown t c.circuit.ensures.fits g b rows (c.requires.good.rows.each b c.args.counts.now.block_within) c.args.counts.now.rows_len p c.requires.pin c.args.value mask stuck
    (λ j lt. c.and-mask.ensures j lt ∙ ap (λ (x : Block). lane stuck j && lane x.capture j) block)
    (λ j lt captured. c.stuck_mask.ensures.good c.requires.good j lt captured ∙ ap (λ (n : ℕ). are_opposite (good_value t (pattern_of b j) n) (stuck_value c.args.value)) net)
    side m
