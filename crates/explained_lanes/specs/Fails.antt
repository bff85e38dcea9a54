-- The failing bits of a block of 512 patterns, as a row of lanes for each point, and what can explain them.
use Rattle.std.specs.Prelude.{◌≡◌, ℕ, ◌<◌, List, [], length, Bool, true, ◌&&◌, slice_index_or}
use Rattle.std.specs.List.{range_with_len, list_any}
use Rattle.scan_model.specs.declared.parts.Point.{Point}
use Rattle.scan_model.specs.declared.fault.Fault.{Fault}
use Rattle.scan_model.specs.ScanTest.{ScanTest, pattern_at, points_of, point_at}
use Rattle.scan_model.specs.Suspect.{can_explain}
use Rattle.lane_rows.specs.Lanes.{lane}
use Rattle.lane_rows.specs.GoodRows.{pattern_of}

-- lane j of the row of point k
abbrev pub fails_at : List (List ℕ) → ℕ → ℕ → Bool
fails_at rows j k = lane (slice_index_or rows k []) j

-- no lane past the last pattern fails
pub record IsWithin (t : ScanTest) (b : ℕ) (rows : List (List ℕ)) : Type 0 where
  pub len : length rows ≡ length (points_of t)
  pub pattern : (j k : ℕ) → j < 512 → k < length (points_of t) → fails_at rows j k ≡ true → pattern_of b j < length t.patterns

-- in lane j a bit fails at one of some points
abbrev pub any_fail : ScanTest → List (List ℕ) → ℕ → (Point → Bool) → Bool
any_fail t rows j is_point = list_any (λ k. fails_at rows j k && is_point (point_at t k)) (range_with_len 0 (length (points_of t)))

-- in lane j of block b the fault can explain a failing bit
abbrev pub explains_in : ScanTest → Fault → ℕ → List (List ℕ) → ℕ → Bool
explains_in t f b rows j = any_fail t rows j (can_explain t f (pattern_at t (pattern_of b j)).kind (pattern_of b j))

-- the answer tells whether one of the 512 lanes is of a kind
pub record Tells (answer : Bool) (is_lane : ℕ → Bool) : Type 0 where
  pub found : answer ≡ true → (j : ℕ) × (j < 512) × (is_lane j ≡ true)
  pub all : (j : ℕ) → j < 512 → is_lane j ≡ true → answer ≡ true

-- the row has each lane of a kind, and a lane at all only where some lane is of that kind
pub record Covers (row : List ℕ) (is_lane : ℕ → Bool) : Type 0 where
  pub found : (j : ℕ) → j < 512 → lane row j ≡ true → (i : ℕ) × (i < 512) × (is_lane i ≡ true)
  pub all : (j : ℕ) → j < 512 → is_lane j ≡ true → lane row j ≡ true
