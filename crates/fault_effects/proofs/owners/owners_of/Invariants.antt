use Rattle.std.proofs.Common.{◌≡◌, ℕ, ◌+◌, ◌<◌, length, get_or}
use Rattle.fault_effects.specs.Owners.{owner, suspect_at}
use Rattle.fault_effects.proofs.owners.owners_of.Given as goal

abbrev pub invariant-loop-suspect : goal.invariant-loop-suspect
invariant-loop-suspect l = record {
  len : length l.keys.items ≡ l.suspect-index;
  keys : (i : ℕ) → i < l.suspect-index → get_or l.keys.items i 0 ≡ owner l.parts (suspect_at l.suspects i).fault;
  below : (i : ℕ) → i < l.suspect-index → get_or l.keys.items i 0 < length l.parts.netlist.nets + 2;
}
