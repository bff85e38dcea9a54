use Rattle.std.proofs.Common.{◌≡◌, ℕ, ◌<◌, length, get_or, slice_index}
use Rattle.lane_rows.specs.WordPlanes.{no_word, word_planes}
use Rattle.lane_rows.proofs.sources.value_words.Given as goal

abbrev pub invariant-loop-i : goal.invariant-loop-i
invariant-loop-i l = record {
  len : length l.words.items ≡ l.i;
  words : (k : ℕ) → k < l.i → get_or l.words.items k no_word ≡ word_planes (slice_index l.ones k) (slice_index l.zeros k);
}
