-- The fails of the 64 patterns of a word, where each point has a word with a bit for each pattern.
use Rattle.std.specs.Prelude.{ℕ, ◌*◌, ◌-◌, ◌==◌, Bool, not, List, flat_map, filter, length, min, slice_index_or}
use Rattle.std.specs.List.{range_with_len}
use Rattle.scan_model.specs.declared.logs.Bit.{Bit}
use Rattle.scan_model.specs.ScanTest.{ScanTest, points_of}
use Rattle.fault_universe.specs.BitRows.{row_bits}

-- the point fails in some pattern of the word
abbrev pub has_fails : List ℕ → ℕ → Bool
has_fails fails k = not (slice_index_or fails k 0 == 0)

abbrev pub points_with_fails : List ℕ → List ℕ
points_with_fails fails = filter (has_fails fails) (range_with_len 0 (length fails))

-- the bits of so many patterns, from one on
abbrev pub bits_from : ScanTest → ℕ → ℕ → List Bit
bits_from t first count = flat_map (λ w. row_bits w (length (points_of t))) (range_with_len first count)

-- the bits of those patterns of a word that are there
abbrev pub word_bits : ScanTest → ℕ → List Bit
word_bits t word = bits_from t (64 * word) (min 64 (length t.patterns - 64 * word))
