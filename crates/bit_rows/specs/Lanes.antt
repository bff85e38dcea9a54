-- A row of 512 lanes, in eight words of 64.
use Rattle.std.specs.Prelude.{ℕ, ◌+◌, ◌*◌, ◌/◌, ◌%◌, List, Bool, true, false, ◌==◌, slice_index_or, count_by}
use Rattle.std.specs.List.{range_with_len}
use Rattle.std.specs.Int.{bit_at}

-- whether lane j is set
abbrev pub lane : List ℕ → ℕ → Bool
lane words j = bit_at (slice_index_or words (j / 64) 0) (j % 64) == 1

-- the pattern of lane j of block b
abbrev pub pattern_of : ℕ → ℕ → ℕ
pattern_of b j = 512 * b + j

-- one is true and the other false
abbrev pub differ : Bool → Bool → Bool
differ true true = false
differ true false = true
differ false true = true
differ false false = false

-- how many lanes pass a test
unfoldable pub count_lanes : (ℕ → Bool) → ℕ
count_lanes p = count_by p (range_with_len 0 512)
