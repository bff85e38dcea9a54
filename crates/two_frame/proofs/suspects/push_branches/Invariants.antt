use Rattle.std.proofs.Common.{◌+◌, ◌*◌, length}
use Rattle.scan_model.specs.Universe.{stems}
use Rattle.two_frame.specs.ReachingFaults.{AreReachingTo}
use Rattle.two_frame.proofs.suspects.push_branches.Given as goal

abbrev pub invariant-loop-at : goal.invariant-loop-at
invariant-loop-at l = AreReachingTo l.parts l.marks (length (stems l.parts) + 2 * l.at) l.suspects
