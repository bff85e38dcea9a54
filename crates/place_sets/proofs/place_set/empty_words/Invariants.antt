use Rattle.std.proofs.Common.{◌≡◌, ℕ, ◌-◌, ◌<◌, ◌≤◌, get_or, length}
use Rattle.place_sets.proofs.place_set.empty_words.Given as goal

abbrev pub invariant-loop-word : goal.invariant-loop-word
invariant-loop-word l = record {
  len : length l.words ≡ length l.initial.words;
  before : (k : ℕ) → k < l.from → get_or l.words k 0 ≡ 0;
  rest : (k : ℕ) → l.from ≤ k → get_or l.words k 0 ≡ get_or l.initial.words k 0;
  within : l.from ≤ length l.words;
}

abbrev pub decreases-loop-word : goal.decreases-loop-word
decreases-loop-word l = length l.words - l.from
