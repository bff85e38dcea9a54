use Rattle.std.proofs.Common.{◌≡◌, ℕ, ◌<◌, true, false, [], length, get_or}
use Rattle.fault_effects.specs.FlipOrder.{IsListing}
use Rattle.fault_effects.proofs.flip_order.Listing.put_all.Given as goal

abbrev pub invariant-loop-net : goal.invariant-loop-net
invariant-loop-net l = record {
  listing : IsListing l.owners (length l.parts.netlist.nets) l.self;
  all : (n : ℕ) → n < l.net → 0 < length (get_or l.owners n []) → get_or l.self.seen.items n false ≡ true;
}
