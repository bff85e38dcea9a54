use Rattle.std.proofs.Common.{length, take}
use Rattle.scan_model.specs.PinCounts.{CountsPins}
use Rattle.scan_model.proofs.branches.pin_counts.Given as goal

abbrev pub invariant-loop-pin : goal.invariant-loop-pin
invariant-loop-pin l = CountsPins (length l.nets) (take l.pin-index l.pins) l.counts.items
