use Rattle.std.proofs.Common.{ap, sym, ◌∙◌, cond, Bool}
use Rattle.lane_rows.specs.Lanes.{lane}
use Rattle.lane_rows.specs.Planes.{held}
use Rattle.packed_sim.specs.PackedParts.{block_at}
use Rattle.packed_sim.specs.ChainLoads.{passed_value}
use Rattle.packed_sim.proofs.Loading.{shown_is}
use Rattle.packed_sim.proofs.good.PackedGood.shown.Goals as goal

pub returns-then-passes : goal.returns-then-passes
returns-then-passes c j lt w_lt =
    let here = held c.held_row-here.result j in
    let next = held c.held_row-next.result j in
    let b = c.args.block in
    c.passed_by-passed.ensures j lt
    ∙ sym (ap (λ (x : Bool). cond x (passed_value c.args.kind here next) here) (sym c.passes_out-passes.ensures ∙ c.if-passes.true))
    ∙ shown_is c.args.parts.now c.chains.ensures.fits c.args.self.now c.requires.good b c.requires.block c.args.fault_cell.0 c.requires.chain c.args.kind c.args.fault_cell.1 c.args.scratch.now c.requires.loaded
    c.args.at j (lane (block_at c.args.self.now b).capture j) here next c.requires.at lt w_lt ((c.requires.good.rows.each b c.requires.block).capture j lt)
    (c.held_row-here.ensures.here c.requires.at j lt) (λ more. c.held_row-next.ensures.here more j lt) (λ past. c.held_row-next.ensures.past past j lt)

pub returns-else-passes : goal.returns-else-passes
returns-else-passes c j lt w_lt =
    let here = held c.held_row-here.result j in
    let next = held c.held_row-next.result j in
    let b = c.args.block in
    sym (ap (λ (x : Bool). cond x (passed_value c.args.kind here next) here) (sym c.passes_out-passes.ensures ∙ c.if-passes.false))
    ∙ shown_is c.args.parts.now c.chains.ensures.fits c.args.self.now c.requires.good b c.requires.block c.args.fault_cell.0 c.requires.chain c.args.kind c.args.fault_cell.1 c.args.scratch.now c.requires.loaded
    c.args.at j (lane (block_at c.args.self.now b).capture j) here next c.requires.at lt w_lt ((c.requires.good.rows.each b c.requires.block).capture j lt)
    (c.held_row-here.ensures.here c.requires.at j lt) (λ more. c.held_row-next.ensures.here more j lt) (λ past. c.held_row-next.ensures.past past j lt)
