use Rattle.std.proofs.Common.{◌*◌, arith}
use Rattle.place_sets.proofs.PlaceWords.{word_within, none_in_word, one_in_word, none_of_filled}
use Rattle.place_sets.proofs.place_set.next_both.Goals as goal

pub least_in_both-requires-clause-word : goal.least_in_both-requires-clause-word
least_in_both-requires-clause-word c = word_within c.args.words.now c.args.filled.now c.requires c.in-Some.word c.in-Some.ensures.1

pub loop-word-preserved : goal.loop-word-preserved
loop-word-preserved c = record {
  past_le = omega (arith, c.loop-word.invariant.past_le, c.in-Some.ensures.0);
  none = none_in_word c.args.words.now c.args.filled.now c.requires c.args.others.now (64 * c.args.from) c.loop-word.past c.in-Some.word c.loop-word.invariant.none c.in-Some.ensures c.in_default-least_in_both.ensures;
}

pub returns-in-Some-least_in_both : goal.returns-in-Some-least_in_both
returns-in-Some-least_in_both c = one_in_word c.args.words.now c.args.filled.now c.requires c.args.others.now (64 * c.args.from) c.loop-word.past c.in-Some.word c.in-Some-least_in_both.place
    (omega (arith, c.loop-word.invariant.past_le)) c.loop-word.invariant.none c.in-Some.ensures c.in-Some-least_in_both.ensures

pub returns : goal.returns
returns c = none_of_filled c.args.words.now c.args.filled.now c.requires c.args.others.now (64 * c.args.from) c.loop-word.past c.loop-word.invariant.none c.in_default.ensures
