use Rattle.std.proofs.Common.{◌≡◌, ◌<◌, length, set, ◌∙◌, arith}
use Rattle.std.proofs.lemmas.List.{length-set}
use Rattle.place_sets.proofs.PlaceWords.{word_within, emptied_more, emptied_rest, emptied_all}
use Rattle.place_sets.proofs.place_set.empty_words.Goals as goal

pub loop-word-preserved : goal.loop-word-preserved
loop-word-preserved c =
    let words = c.args.words.now in
    let filled = c.args.filled.now in
    let now = c.loop-word.words in
    let word = c.in-Some.word in
    let inv = c.loop-word.invariant in
    let within : word < length words = word_within words filled c.requires word c.in-Some.ensures.1 in
    let len : length (set now word 0) ≡ length now = length-set now word 0 in
    record {
      len = len ∙ inv.len;
      before = emptied_more words filled c.requires now c.loop-word.from word inv.len inv.before inv.rest c.in-Some.ensures;
      rest = emptied_rest words filled c.requires now c.loop-word.from word c.in-Some.ensures.0 inv.rest;
      within = omega (arith, within, len, inv.len);
    }

pub returns-clause-empty : goal.returns-clause-empty
returns-clause-empty c = emptied_all c.args.words.now c.args.filled.now c.requires c.loop-word.words c.loop-word.from c.loop-word.invariant.before c.loop-word.invariant.rest c.in_default.ensures
