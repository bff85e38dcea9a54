-- The bits of a test, row by row.
use Rattle.std.specs.Prelude.{ℕ, List, map, flat_map, length}
use Rattle.std.specs.List.{range_with_len}
use Rattle.scan_model.specs.declared.logs.Bit.{Bit}
use Rattle.scan_model.specs.ScanTest.{ScanTest, points_of}
use Rattle.scan_model.specs.Coverage.{bit_of}

-- the bits of a pattern at the first n points
abbrev pub row_bits : ℕ → ℕ → List Bit
row_bits w n = map (bit_of w) (range_with_len 0 n)

-- the bits of the first m patterns
abbrev pub bits_upto : ScanTest → ℕ → List Bit
bits_upto t m = flat_map (λ w. row_bits w (length (points_of t))) (range_with_len 0 m)
