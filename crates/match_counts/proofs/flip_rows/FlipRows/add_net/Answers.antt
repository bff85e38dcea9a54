use Rattle.std.proofs.Common.{◌≡◌, ℕ, ◌+◌, Bool, eqb, ◌&&◌, List, length, get_or, ap, ◌∙◌, arith}
use Rattle.std.specs.Prelude.{sum_by}
use Rattle.std.proofs.lemmas.List.{get_or_default}
use Rattle.scan_model.specs.Values.{are_opposite}
use Rattle.scan_model.specs.ScanTest.{points_of}
use Rattle.lane_rows.specs.declared.block.Block.{Block}
use Rattle.lane_rows.specs.Lanes.{lane, count_lanes}
use Rattle.lane_rows.specs.GoodRows.{no_block}
use Rattle.packed_sim.specs.PackedParts.{observed_at, block_at, good_at, now_at}
use Rattle.match_counts.specs.Flips.{tallied, list_on, row_on, point_row_at, caught_lane}
use Rattle.fault_effects.proofs.NetPoints.{filtered}
use Rattle.match_counts.proofs.FlipSums.{shown_of_net}
use Rattle.match_counts.proofs.flip_rows.FlipRows.add_net.Goals as goal

pub add_points-requires : goal.add_points-requires
add_points-requires c = rw c.points_of_net-points.ensures (λ k d lt. omega (arith, c.args.counts.now.rows_len, (filtered (λ x. eqb (observed_at c.args.counts.now.parts.now x) c.args.net) 0 (length (points_of c.args.counts.now.parts.now)) k d lt).0))

pub returns : goal.returns
returns c = λ side m.
    let t = c.args.counts.now.parts.now in
    let g = c.args.counts.now.good.now in
    let s = c.args.scratch.now in
    let b = c.args.counts.now.block in
    let rows = c.args.counts.now.rows.now in
    let n = c.args.net in
    let found = get_or c.blocks-2.result.now b c.index-blocks-counts.result in
    let block : found ≡ block_at g b = get_or_default c.blocks-2.result.now b c.index-blocks-counts.result no_block (omega (arith, ap length c.blocks-2.ensures, c.args.counts.now.block_within)) ∙ ap (λ (bs : List Block). get_or bs b no_block) c.blocks-2.ensures in
    let old = tallied (list_on side c.args.self.now) m in
    c.in_ok-add_points.ensures side m
    ∙ ap (λ (ps : List ℕ). old + sum_by (λ k. count_lanes (λ j. (lane c.and-caught.result j && lane (row_on side (point_row_at rows k)) j) && m j)) ps) c.points_of_net-points.ensures
    ∙ ap (λ (v : ℕ). old + v) (shown_of_net t g s b rows side m n c.and-caught.result (λ j lt.
    c.and-caught.ensures j lt
    ∙ ap (λ (x : Bool). x && lane found.capture j) (c.difference.ensures j lt)
    ∙ ap (λ (x : Block). are_opposite (good_at g b j n) (now_at g s b j n) && lane x.capture j) block))
