use Rattle.std.proofs.Common.{◌≡◌, ◌+◌, ◌<◌, ◌∙◌, List, length, get_or, sym, ap, subst, arith}
use Rattle.std.proofs.lemmas.List.{length_push, get_or_default}
use Rattle.lane_rows.specs.declared.block.Block.{Block}
use Rattle.lane_rows.specs.GoodRows.{AreBlockRows, no_block}
use Rattle.lane_rows.specs.Stimuli.{AreRowsOf}
use Rattle.frame_rows.specs.SecondRows.{second_stimuli}
use Rattle.frame_rows.proofs.NextFrame.{next_more, next_rows}
use Rattle.frame_rows.proofs.second.second_rows.Goals as goal

pub loop-block-preserved : goal.loop-block-preserved
loop-block-preserved c =
    let t = c.args.parts.now in
    let first = c.args.first.now in
    let k = c.loop-block.block-index in
    let blocks = c.blocks-block-items.ensures in
    let inside : k < length first = omega (arith, c.loop-block-test.true, ap length blocks) in
    let read : c.block-item.result ≡ get_or first k no_block =
    c.block-item.is ∙ ap (λ (bs : List Block). get_or bs k c.block-item.result) blocks ∙ get_or_default first k c.block-item.result no_block inside in
    let rows : AreBlockRows t k c.block-item.result = subst (AreBlockRows t k) (sym read) (c.requires.each k inside) in
    record {
      len = ap length c.in_ok-push.ensures.items ∙ length_push c.loop-block.blocks.items c.in_ok-next_block.field-0 ∙ ap (λ n. n + 1) c.loop-block.invariant.len;
      each = next_more t k c.loop-block.blocks.items c.push.new.self.items c.in_ok-next_block.field-0 c.in_ok-push.ensures.items c.loop-block.invariant.len c.loop-block.invariant.each (c.in_ok-next_block.ensures k rows);
    }

pub returns : goal.returns
returns c =
    let t = c.args.parts.now in
    let first = c.args.first.now in
    let blocks = c.blocks-block-items.ensures in
    let whole : c.loop-block.block-index ≡ length first = omega (arith, c.loop-block-test.false, c.loop-block.auto.block-index-end, ap length blocks) in
    subst (AreRowsOf t.netlist (second_stimuli t)) (sym (c.of_blocks.ensures ∙ c.from_vec.ensures))
    (next_rows t first c.loop-block.blocks.items c.requires (c.loop-block.invariant.len ∙ whole) (λ b lt. c.loop-block.invariant.each b (omega (arith, whole))))
