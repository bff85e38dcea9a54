use Rattle.std.proofs.Common.{length, get_or, sym, ◌∙◌}
use Rattle.lane_rows.specs.GoodRows.{pattern_of}
use Rattle.scan_model.specs.NetValue.{good_value}
use Rattle.scan_model.specs.Suspect.{observed_net}
use Rattle.scan_model.specs.Masks.{flipped}
use Rattle.fault_effects.specs.FaultModel.{shown_in}
use Rattle.fault_effects.proofs.NetPoints.{own_all_below}
use Rattle.chain_compactor.specs.CompactModel.{compact_model}
use Rattle.chain_compactor.specs.CompactCounts.{differs_in, within_set}
use Rattle.chain_compactor.proofs.SparseSums.{table_same}
use Rattle.chain_compactor.proofs.CompactShows.{capture_lane, expected_good, flip_places}
use Rattle.chain_compactor.proofs.counts.CompactCounts.gather.Goals as goal

pub due_places-requires-clause-nets : goal.due_places-requires-clause-nets
due_places-requires-clause-nets c =
    let o = c.args.self.now in
    own_all_below o.parts.now o.good.now c.args.scratch.now c.nets.result.now c.requires.flip.belongs c.requires.flip.inside c.nets.ensures.all

pub show_places-requires-clause-tells : goal.show_places-requires-clause-tells
show_places-requires-clause-tells c = λ j lt on.
    let o = c.args.self.now in
    sym (capture_lane o.parts.now o.good.now c.requires.flip.belongs o.block o.block_within c.blocks-2.result.now c.index-blocks-self.result c.blocks-2.ensures j lt) ∙ on

pub show_places-requires-clause-good : goal.show_places-requires-clause-good
show_places-requires-clause-good c = λ q j within lt on.
    let o = c.args.self.now in
    expected_good o.parts.now c.chains.ensures.fits o.compact.now o.made o.block o.expected.now o.expected_right q j within lt
    (sym (capture_lane o.parts.now o.good.now c.requires.flip.belongs o.block o.block_within c.blocks-2.result.now c.index-blocks-self.result c.blocks-2.ensures j lt) ∙ on)

pub returns : goal.returns
returns c =
    let o = c.args.self.now in
    let t = o.parts.now in
    let k = o.compact.now in
    let b = o.block in
    let n = c.args.net in
    let capture = (get_or c.blocks-2.result.now b c.index-blocks-self.result).capture in
    table_same (length k.points) o.rows.now
    (within_set c.in_ok-due.due (differs_in t k capture (λ j p. good_value t (pattern_of b j) (observed_net t p)) (λ j p. flipped t (pattern_of b j) n (observed_net t p))))
    (shown_in (compact_model t k) b n) o.rows_len
    (flip_places t c.chains.ensures.fits k o.made o.good.now b capture (capture_lane t o.good.now c.requires.flip.belongs b o.block_within c.blocks-2.result.now c.index-blocks-self.result c.blocks-2.ensures)
    n c.args.scratch.now c.nets.result.now c.in_ok-due.due c.requires.flip c.nets.ensures.all c.in_ok-due.ensures)
    c.show_places.new.into c.in_ok-show_places.ensures
