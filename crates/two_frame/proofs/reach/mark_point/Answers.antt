use Rattle.two_frame.proofs.FanInMarks.{kept_mark}
use Rattle.two_frame.proofs.reach.mark_point.Goals as goal

pub returns-clause-kept : goal.returns-clause-kept
returns-clause-kept c = λ n marked. kept_mark c.args.marks.now c.args.net c.requires n marked
