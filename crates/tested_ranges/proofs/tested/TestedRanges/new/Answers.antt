use Rattle.std.proofs.Common.{refl}
use Rattle.tested_ranges.proofs.Marks.{none_marked}
use Rattle.tested_ranges.proofs.tested.TestedRanges.new.Goals as goal

pub invariant_of-result : goal.invariant_of-result
invariant_of-result c = (refl, λ w. rw c.new.ensures.items (none_marked w))
