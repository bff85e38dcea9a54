use Rattle.std.proofs.Common.{◌≡◌, None, All, length}
use Rattle.work_crew.proofs.crew.empty_slots.Given as goal

abbrev pub invariant-loop : goal.invariant-loop
invariant-loop g l = (length l.slots.items ≡ l.counter) × All (λ slot. slot ≡ None) l.slots.items
