-- The bits that fail lines name, by their numbers in bit order.
use Rattle.std.specs.Prelude.{ℕ, ◌+◌, ◌*◌, ◌/◌, ◌%◌, List, [], length, filter_map, slice_index, slice_index_or, Option, option_map}
use Rattle.std.specs.List.{position_or_len}
use Rattle.std.specs.Str.{bytes_eq}
use Rattle.scan_model.specs.declared.logs.Bit.{Bit}
use Rattle.scan_model.specs.Coverage.{bit_of}
use Rattle.scan_model.specs.LogText.{LogFrame, LogLine, out_line, cell_line, pattern_named, number}

-- the number of a bit among all bits of so many points to a pattern
abbrev pub bit_number : ℕ → ℕ → ℕ → ℕ
bit_number points pattern point = pattern * points + point

abbrev pub bit_numbered : ℕ → ℕ → Bit
bit_numbered points n = bit_of (n / points) (n % points)

-- the point of a cell, where the row of each chain has the points of its cells
abbrev pub place_in : List (List ℕ) → ℕ → ℕ → ℕ
place_in rows h i = slice_index (slice_index_or rows h []) i

-- the point that a fail line names
abbrev pub point_named : LogFrame → List (List ℕ) → LogLine → ℕ
point_named frame rows (out_line p n) = position_or_len (bytes_eq n) frame.outputs
point_named frame rows (cell_line p c w) = place_in rows (position_or_len (bytes_eq c) frame.chains) (number w)
point_named frame rows l = 0

-- the number of the bit that a fail line names
abbrev pub number_named : LogFrame → List (List ℕ) → LogLine → Option ℕ
number_named frame rows l = option_map (λ p. bit_number (length frame.points) p (point_named frame rows l)) (pattern_named l)

abbrev pub numbers_named : LogFrame → List (List ℕ) → List LogLine → List ℕ
numbers_named frame rows ls = filter_map (number_named frame rows) ls
