use Rattle.std.proofs.Common.{◌≡◌, ℕ, ◌+◌, ◌*◌, ◌/◌, ◌<◌, ◌≤◌, false}
use Rattle.place_sets.specs.Places.{has_place}
use Rattle.place_sets.proofs.place_set.next_in.Given as goal

abbrev pub invariant-loop-word : goal.invariant-loop-word
invariant-loop-word l = record {
  past : l.from / 64 + 1 ≤ l.word;
  none : (k : ℕ) → l.from ≤ k → k < l.word * 64 → has_place l.words k ≡ false;
}
