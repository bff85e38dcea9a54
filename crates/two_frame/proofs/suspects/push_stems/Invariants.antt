use Rattle.std.proofs.Common.{◌*◌}
use Rattle.two_frame.specs.ReachingFaults.{AreReachingTo}
use Rattle.two_frame.proofs.suspects.push_stems.Given as goal

abbrev pub invariant-loop-net : goal.invariant-loop-net
invariant-loop-net l = AreReachingTo l.parts l.marks (2 * l.net) l.suspects
