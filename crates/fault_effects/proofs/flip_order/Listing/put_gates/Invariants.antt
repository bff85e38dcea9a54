use Rattle.std.proofs.Common.{length}
use Rattle.fault_effects.specs.FlipOrder.{IsListing}
use Rattle.fault_effects.proofs.flip_order.Listing.put_gates.Given as goal

abbrev pub invariant-loop-k : goal.invariant-loop-k
invariant-loop-k l = IsListing l.owners (length l.parts.netlist.nets) l.self
