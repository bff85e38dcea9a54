-- A number in each of 512 lanes, in slices.
use Rattle.std.specs.Prelude.{ℕ, zero, suc, ◌+◌, ◌*◌, List, [], ◌∷◌, sum_by, Bool, cond}
use Rattle.bit_rows.specs.Lanes.{lane}

abbrev pub one : Bool → ℕ
one b = cond b 1 0

-- the number of lane j, from its bits in the slices, the lowest first
abbrev pub value : List (List ℕ) → ℕ → ℕ
value [] j = 0
value (s ∷ ss) j = one (lane s j) + 2 * value ss j

-- 2 to the i
abbrev pub weight : ℕ → ℕ
weight zero = 1
weight (suc i) = 2 * weight i

-- how many of some rows have lane j
abbrev pub rows_with : List (List ℕ) → ℕ → ℕ
rows_with rows j = sum_by (λ r. one (lane r j)) rows
