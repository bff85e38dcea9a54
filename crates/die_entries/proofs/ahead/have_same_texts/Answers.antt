use Rattle.std.proofs.Common.{rules}
use Rattle.die_entries.proofs.SameViews.{texts_behind}
use Rattle.die_entries.proofs.ahead.have_same_texts.Goals as goal

pub loop-log-preserved : goal.loop-log-preserved
loop-log-preserved c =
    λ behind. c.loop-log.invariant
    (texts_behind c.loop-log.rest.now c.loop-log.other_rest.now c.in-Some.more.now c.in-Some-split_first.other_more.now c.in-Some.log.now c.in-Some-split_first.other.now (search rules) (search rules) (search rules) behind)
