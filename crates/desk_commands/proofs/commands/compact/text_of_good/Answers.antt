use Rattle.std.proofs.Common.{sym, subst}
use Rattle.scan_model.specs.Universe.{universe}
use Rattle.lane_rows.specs.GoodRows.{AreGoodRows}
use Rattle.chain_compactor.specs.CompactMatches.{compact_bits, compact_class, predicts_compact_fail}
use Rattle.desk_commands.proofs.Candidates.{in_order, places}
use Rattle.desk_commands.proofs.commands.compact.text_of_good.Goals as goal

pub compact_expected_over-requires-clause-rows : goal.compact_expected_over-requires-clause-rows
compact_expected_over-requires-clause-rows c = subst (AreGoodRows c.args.parts.now) (sym c.rows.ensures) c.requires.good.rows

pub compact_text-requires-clause-expected : goal.compact_text-requires-clause-expected
compact_text-requires-clause-expected c = c.in_ok-expected.ensures.fits c.args.joined.now c.requires.joined

pub compact_text-requires-clause-places : goal.compact_text-requires-clause-places
compact_text-requires-clause-places c =
    let t = c.args.parts.now in
    let k = c.args.compact.now in
    let logs = c.requires.stands.0 in
    places (compact_bits t k) (compact_class t k logs) (predicts_compact_fail t k) (universe t) c.in_ok-rows.rows c.rank_by_numbers.new.rows (c.in_ok-rows.ensures logs c.requires.stands.1) c.rank_by_numbers.ensures.same

pub returns : goal.returns
returns c = λ logs stands count.
    let t = c.args.parts.now in
    let k = c.args.compact.now in
    let ranked = in_order (compact_bits t k) (compact_class t k logs) (predicts_compact_fail t k) (universe t) c.in_ok-rows.rows c.rank_by_numbers.new.rows (c.in_ok-rows.ensures logs stands) c.rank_by_numbers.ensures.one in
    c.compact_text.ensures.report logs stands c.in_ok-expected.ensures.value count ranked
