use Rattle.std.proofs.Common.{ℕ, List, map, take, get_or, None, sym, ap, ◌∙◌}
use Rattle.std.proofs.lemmas.List.{take_all, map-append}
use Rattle.scan_model.specs.Values.{xor_of}
use Rattle.scan_model.specs.Response.{observed}
use Rattle.lane_rows.specs.GoodRows.{pattern_of}
use Rattle.compact_points.specs.Compaction.{cell_shown, cells_shown}
use Rattle.compact_points.proofs.ShownCells.{shown_more}
use Rattle.compact_points.proofs.expected.channel_in_block.Goals as goal

pub loop-chain-preserved : goal.loop-chain-preserved
loop-chain-preserved c = λ b j rows lane_in there.
    let t = c.args.parts.now in
    let see = observed t None (pattern_of b j) in
    let seen = cells_shown t c.args.cycle (take c.loop-chain.chain-index c.args.chains.now) in
    c.with_chain-row.ensures b j rows lane_in there (map see seen) (c.loop-chain.invariant b j rows lane_in there)
    ∙ ap xor_of (sym (ap (map see) (shown_more t c.args.cycle c.args.chains.now c.loop-chain.chain-index c.loop-chain-test.true) ∙ map-append see seen (cell_shown t c.args.cycle (get_or c.args.chains.now c.loop-chain.chain-index 0))))

pub returns : goal.returns
returns c = λ b j rows lane_in there.
    let t = c.args.parts.now in
    c.loop-chain.invariant b j rows lane_in there
    ∙ ap (λ (hs : List ℕ). xor_of (map (observed t None (pattern_of b j)) (cells_shown t c.args.cycle hs))) (take_all c.loop-chain.chain-index c.args.chains.now c.loop-chain-test.false)
