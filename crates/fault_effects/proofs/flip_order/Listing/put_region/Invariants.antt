use Rattle.std.proofs.Common.{◌≡◌, ℕ, true, false, length, get_or}
use Rattle.fault_effects.specs.FlipOrder.{IsListing}
use Rattle.fault_effects.proofs.flip_order.Listing.put_region.Given as goal

abbrev pub invariant-loop : goal.invariant-loop
invariant-loop l = record {
  listing : IsListing l.owners (length l.parts.netlist.nets) l.self;
  root : get_or l.self.seen.items l.root false ≡ true;
  kept : (n : ℕ) → get_or l.fn.self.seen.items n false ≡ true → get_or l.self.seen.items n false ≡ true;
}
