use Rattle.place_sets.proofs.PlaceWords.{none_of_both, one_of_both}
use Rattle.place_sets.proofs.place_set.least_in_both.Goals as goal

pub returns-in-Some : goal.returns-in-Some
returns-in-Some c = one_of_both c.args.words.now c.args.others.now c.args.word c.args.low c.in-Some.bit (rw c.word_or_empty.ensures at c.in-Some.ensures)

pub returns-in-None : goal.returns-in-None
returns-in-None c = none_of_both c.args.words.now c.args.others.now c.args.word c.args.low (rw c.word_or_empty.ensures at c.in-None.ensures)
