use Rattle.std.proofs.Common.{ap, ◌∙◌}
use Rattle.scan_model.specs.ChainShift.{value_at}
use Rattle.lane_rows.specs.GoodRows.{pattern_of}
use Rattle.scan_model.specs.Loads.{load}
use Rattle.lane_rows.specs.Planes.{held}
use Rattle.packed_sim.proofs.Loading.{row_is, passed_row_is}
use Rattle.packed_sim.proofs.good.PackedGood.passed_row.Goals as goal

pub returns : goal.returns
returns c j lt w_lt =
    let t = c.args.parts.now in
    passed_row_is t c.chains.ensures.fits c.args.self.now c.requires.good c.args.block c.requires.block c.args.chain c.requires.chain c.args.kind c.args.pos j (held c.passed_by.result j) (held c.load_row-here.result j) (held c.load_row-next.result j)
    (c.passed_by.ensures j lt)
    (row_is t c.chains.ensures.fits c.args.self.now c.requires.good c.args.block c.requires.block c.args.chain c.requires.chain c.args.kind c.args.pos j (held c.load_row-here.result j) (λ inside. c.load_row-here.ensures.within inside j lt) (λ past. c.load_row-here.ensures.past past j lt) lt w_lt)
    (row_is t c.chains.ensures.fits c.args.self.now c.requires.good c.args.block c.requires.block c.args.chain c.requires.chain c.args.kind c.next_position-above.result j (held c.load_row-next.result j) (λ inside. c.load_row-next.ensures.within inside j lt) (λ past. c.load_row-next.ensures.past past j lt) lt w_lt
    ∙ ap (value_at (load t (pattern_of c.args.block j) c.args.chain)) c.next_position-above.ensures)
