use Rattle.back_trace.proofs.Unreached.{stem_stays}
use Rattle.back_trace.proofs.marks.mark_stem.Goals as goal

pub returns-then-is_empty_at : goal.returns-then-is_empty_at
returns-then-is_empty_at c = stem_stays c.args.parts.now c.args.block.now c.args.trace.now c.requires.traced c.args.net c.args.first c.args.marks.now c.requires.net (c.is_empty_at.ensures.empty c.if-is_empty_at.true) c.requires.faults
