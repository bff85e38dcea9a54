use Rattle.scan_model.specs.Coverage.{bits_of}
use Rattle.two_frame.specs.TwoFrame.{frame_class, frame_fails, transitions}
use Rattle.desk_commands.proofs.Candidates.{in_order, places}
use Rattle.desk_commands.proofs.commands.loc.text_of_good.Goals as goal

pub frame_text-requires-clause-expected : goal.frame_text-requires-clause-expected
frame_text-requires-clause-expected c = c.in_ok-expected.ensures.fits c.args.joined.now c.requires.joined

pub frame_text-requires-clause-places : goal.frame_text-requires-clause-places
frame_text-requires-clause-places c =
    let t = c.args.parts.now in
    let logs = c.requires.stands.0 in
    places (bits_of t) (frame_class t logs) (frame_fails t) (transitions t) c.in_ok-rows.rows c.rank_by_numbers.new.rows (c.in_ok-rows.ensures logs c.requires.stands.1) c.rank_by_numbers.ensures.same

pub returns : goal.returns
returns c = λ logs stands count.
    let t = c.args.parts.now in
    let ranked = in_order (bits_of t) (frame_class t logs) (frame_fails t) (transitions t) c.in_ok-rows.rows c.rank_by_numbers.new.rows (c.in_ok-rows.ensures logs stands) c.rank_by_numbers.ensures.one in
    c.frame_text.ensures.report logs stands c.in_ok-expected.ensures.value count ranked
