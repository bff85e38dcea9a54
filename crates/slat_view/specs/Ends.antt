-- The first and the last Failing point of each pattern of a block.
use Rattle.std.specs.Prelude.{◌≡◌, ℕ, ◌+◌, ◌-◌, ◌<◌, List, length, Bool, not, ◌&&◌}
use Rattle.std.specs.List.{list_any, range_with_len}
use Rattle.lane_rows.specs.Lanes.{lane}
use Rattle.log_rows.specs.declared.point_row.PointRow.{PointRow}
use Rattle.match_counts.specs.Flips.{point_row_at}
use Rattle.explained_lanes.specs.Fails.{fails_at}

-- point k is Failing in lane j
abbrev pub is_failing_at : List PointRow → ℕ → ℕ → Bool
is_failing_at rows j k = lane (point_row_at rows k).failing j

-- some point before k is, or some point from k on
abbrev pub any_before : List PointRow → ℕ → ℕ → Bool
any_before rows j k = list_any (is_failing_at rows j) (range_with_len 0 k)

abbrev pub any_from : List PointRow → ℕ → ℕ → Bool
any_from rows j k = list_any (is_failing_at rows j) (range_with_len k (length rows - k))

-- point k is the first Failing one in lane j, or the last
abbrev pub is_first : List PointRow → ℕ → ℕ → Bool
is_first rows j k = is_failing_at rows j k && not (any_before rows j k)

abbrev pub is_last : List PointRow → ℕ → ℕ → Bool
is_last rows j k = is_failing_at rows j k && not (any_from rows j (k + 1))

-- for each point, the lanes in which it is so
abbrev pub AreFirsts : List PointRow → List (List ℕ) → Type 0
AreFirsts rows firsts = (j k : ℕ) → j < 512 → k < length rows → fails_at firsts j k ≡ is_first rows j k

abbrev pub AreLasts : List PointRow → List (List ℕ) → Type 0
AreLasts rows lasts = (j k : ℕ) → j < 512 → k < length rows → fails_at lasts j k ≡ is_last rows j k
