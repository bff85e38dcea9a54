use Rattle.std.proofs.Common.{◌<◌, length, sym, ap, subst, ◌∙◌, arith}
use Rattle.lane_rows.specs.declared.block.Block.{Block}
use Rattle.lane_rows.specs.GoodRows.{AreBlockRows}
use Rattle.frame_rows.specs.SecondRows.{IsNextBlock}
use Rattle.frame_rows.proofs.NextFrame.{block_of_rows}
use Rattle.two_frame.proofs.BlockReads.{block_read}
use Rattle.two_frame.proofs.frame_good.FrameGood.launched.Goals as goal

pub launched_lanes-requires-clause-first : goal.launched_lanes-requires-clause-first
launched_lanes-requires-clause-first c =
    let g = c.args.self.now in
    let b = c.args.block in
    ap (λ (x : Block). length x.values) (c.index-blocks-block.is ∙ block_read g.first c.blocks-2.result.now c.index-blocks-block.result b c.blocks-2.ensures c.requires.block) ∙ (c.requires.good.first.each b c.requires.block).len

pub launched_lanes-requires-clause-second : goal.launched_lanes-requires-clause-second
launched_lanes-requires-clause-second c =
    let g = c.args.self.now in
    let b = c.args.block in
    let b_lt : b < length g.second.rows = omega (arith, c.requires.block, c.requires.good.first.count, c.requires.good.second.count) in
    ap (λ (x : Block). length x.values) (c.index-blocks-block-2.is ∙ block_read g.second.rows c.blocks-3.result.now c.index-blocks-block-2.result b c.blocks-3.ensures b_lt) ∙ c.requires.good.second.rows b b_lt

pub returns : goal.returns
returns c j lt is =
    let t = c.args.parts.now in
    let g = c.args.self.now in
    let b = c.args.block in
    let b_lt : b < length g.second.rows = omega (arith, c.requires.block, c.requires.good.first.count, c.requires.good.second.count) in
    let First : Block → Type 0 = AreBlockRows t b in
    let Next : Block → Type 0 = IsNextBlock t b in
    let first = c.index-blocks-block.is ∙ block_read g.first c.blocks-2.result.now c.index-blocks-block.result b c.blocks-2.ensures c.requires.block in
    let second = c.index-blocks-block-2.is ∙ block_read g.second.rows c.blocks-3.result.now c.index-blocks-block-2.result b c.blocks-3.ensures b_lt in
    c.launched_lanes.ensures b j (subst First (sym first) (c.requires.good.first.each b c.requires.block)) (subst Next (sym second) (block_of_rows t g.second.rows b c.requires.good.second b_lt)) lt is
