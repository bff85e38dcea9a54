use Rattle.std.proofs.Common.{length, sym, ◌∙◌}
use Rattle.std.proofs.lemmas.Bool.{ltb-true}
use Rattle.lane_rows.specs.GoodRows.{pattern_of}
use Rattle.chain_compactor.proofs.CompactShows.{expected_shown, cell_places}
use Rattle.chain_compactor.proofs.observer.CompactCountsChainObserver.row.Goals as goal

pub differing_row-requires-clause-good : goal.differing_row-requires-clause-good
differing_row-requires-clause-good c = λ q j within lt on.
    let o = c.args.self.now in
    expected_shown o.parts.now c.chains.ensures.fits o.compact.now o.made o.block o.expected.now o.expected_right q j within lt
    (ltb-true (pattern_of o.block j) (length o.parts.now.patterns) (sym (c.patterns-there.ensures j lt) ∙ on))

pub returns : goal.returns
returns c = λ j lt.
    let o = c.args.self.now in
    c.differing_row.ensures j lt
    ∙ cell_places o.parts.now c.chains.ensures.fits o.compact.now o.made o.block c.args.cell.0 c.args.cell.1 c.args.kind c.patterns-there.result c.args.place j c.requires.place (c.patterns-there.ensures j lt)
