use Rattle.std.proofs.Common.{◌≡◌, ℕ, length, take, get_or}
use Rattle.bridge_pairs.specs.PairRows.{emptied}
use Rattle.bridge_pairs.proofs.reached_rows.empty_slots.Given as goal

abbrev pub invariant-loop-net : goal.invariant-loop-net
invariant-loop-net l = record {
  len : length l.slots ≡ length l.fn.slots;
  so_far : (n : ℕ) → get_or l.slots n 0 ≡ emptied (take l.net-index l.nets) l.fn.slots n;
}
