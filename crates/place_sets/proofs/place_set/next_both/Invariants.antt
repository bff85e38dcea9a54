use Rattle.std.proofs.Common.{◌≡◌, ℕ, ◌-◌, ◌*◌, ◌<◌, ◌≤◌, false, ◌&&◌, length}
use Rattle.place_sets.specs.Places.{has_place}
use Rattle.place_sets.proofs.place_set.next_both.Given as goal

abbrev pub invariant-loop-word : goal.invariant-loop-word
invariant-loop-word l = record {
  past_le : l.from ≤ l.past;
  none : (k : ℕ) → 64 * l.from ≤ k → k < 64 * l.past → (has_place l.words k && has_place l.others k) ≡ false;
}

abbrev pub decreases-loop-word : goal.decreases-loop-word
decreases-loop-word l = length l.words - l.past
