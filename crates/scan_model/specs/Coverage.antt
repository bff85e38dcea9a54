-- Which bits a fail log covers, and which of them it lists as failing.
use Rattle.std.specs.Prelude.{ℕ, ◌≡◌, ◌<◌, All, List, map, flat_map, length, Bool, true, not, ◌&&◌, ◌||◌, ◌==◌, nat_lt, nat_le}
use Rattle.std.specs.List.{list_any, list_all, range_with_len}
use Rattle.scan_model.specs.declared.logs.Bit.{Bit}
use Rattle.scan_model.specs.declared.logs.Range.{Range}
use Rattle.scan_model.specs.declared.logs.LogFacts.{LogFacts}
use Rattle.scan_model.specs.ScanTest.{ScanTest, points_of}

abbrev pub bit_of : ℕ → ℕ → Bit
bit_of w k = record { pattern = w; point = k }

abbrev pub same_bit : Bit → Bit → Bool
same_bit a b = (a.pattern == b.pattern) && (a.point == b.point)

-- a stands before b or is b: by pattern, then by point in test order
abbrev pub not_after : Bit → Bit → Bool
not_after a b = nat_lt a.pattern b.pattern || ((a.pattern == b.pattern) && nat_le a.point b.point)

-- the log lists the bit as failing
abbrev pub lists : LogFacts → Bit → Bool
lists log b = list_any (same_bit b) log.fails

-- some range holds the pattern
abbrev pub some_holds : List Range → ℕ → Bool
some_holds ranges w = list_any (λ r. nat_le r.first w && nat_le w r.last) ranges

abbrev pub is_tested : LogFacts → ℕ → Bool
is_tested log w = some_holds log.ranges w

-- the group has the point
abbrev pub has_point : List ℕ → ℕ → Bool
has_point group k = list_any (λ m. k == m) group

-- some failing bit at a point of the group isn't before b
abbrev pub group_goes_on : LogFacts → Bit → List ℕ → Bool
group_goes_on log b group = list_any (λ f. has_point group f.point && not_after b f) log.fails

-- A complete log covers all bits of its tested patterns. One that was cut short covers them up to its last failing
-- bit, and none where it has no failing bit. At the points of a group that was cut on its own both cover the bits up
-- to the last failing bit of the group alone, and none where the group has no failing bit.
abbrev pub covers : LogFacts → Bit → Bool
covers log b =
    is_tested log b.pattern
    && ((not log.truncated || list_any (not_after b) log.fails)
    && list_all (λ group. not (has_point group b.point) || group_goes_on log b group) log.cuts)

-- all bits of so many patterns and points, in bit order
abbrev pub bits_over : ℕ → ℕ → List Bit
bits_over patterns points = flat_map (λ w. map (bit_of w) (range_with_len 0 points)) (range_with_len 0 patterns)

abbrev pub bits_of : ScanTest → List Bit
bits_of t = bits_over (length t.patterns) (length (points_of t))

-- the log's tested patterns, its failing bits and its groups lie within so many patterns and points, and its failing
-- bits in its ranges
pub record FitsLog (patterns points : ℕ) (log : LogFacts) : Type 0 where
  pub ranges : All (λ r. r.last < patterns) log.ranges
  pub fails : All (λ b. (is_tested log b.pattern ≡ true) × (b.point < points)) log.fails
  pub cuts : All (All (λ k. k < points)) log.cuts
