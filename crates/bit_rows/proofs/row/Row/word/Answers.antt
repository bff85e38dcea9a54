use Rattle.bit_rows.proofs.LaneOps.{word_lane}
use Rattle.bit_rows.proofs.row.Row.word.Goals as goal

pub returns : goal.returns
returns c = λ i lt. rw (← c.to_words.ensures.words) (word_lane c.to_words.result c.args.at i lt)
