use Rattle.std.proofs.Common.{arith}
use Rattle.tested_ranges.proofs.Marks.{past_marks}
use Rattle.tested_ranges.proofs.tested.TestedRanges.holds.Goals as goal

pub returns-else-pattern-lt4096 : goal.returns-else-pattern-lt4096
returns-else-pattern-lt4096 c = rw (← c.self.view_is) (past_marks c.self.inside.marks c.self.inside.ranges.items c.args.pattern (omega (arith, c.self.invariant.0)) c.self.invariant.1 (omega (arith, c.if-pattern-lt4096.false)))
