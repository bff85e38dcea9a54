-- The bits of a test that are seen in Failing bits of a compactor.
use Rattle.std.specs.Prelude.{◌≡◌, ℕ, ◌-◌, ◌<◌, true, false, List, [], ◌∷◌, All, Contains, length, slice_index_or}
use Rattle.scan_model.specs.declared.logs.Bit.{Bit}
use Rattle.scan_model.specs.declared.logs.LogFacts.{LogFacts}
use Rattle.scan_model.specs.ScanTest.{ScanTest, points_of, point_at}
use Rattle.scan_model.specs.Coverage.{bit_of}
use Rattle.scan_model.specs.Classes.{is_failing}
use Rattle.lane_rows.specs.Lanes.{lane}
use Rattle.lane_rows.specs.GoodRows.{pattern_of}
use Rattle.log_rows.specs.declared.point_row.PointRow.{PointRow}
use Rattle.log_rows.specs.PointRows.{no_point_row}
use Rattle.compact_points.specs.Channels.{Compactor}
use Rattle.chain_compactor.specs.CompactMatches.{compact_class}
use Rattle.chain_compactor.specs.ObservationPoints.{seeing}

-- a bit of so many patterns and points
abbrev pub IsBitIn : ℕ → ℕ → Bit → Type 0
IsBitIn patterns points x = (x.pattern < patterns) × (x.point < points)

abbrev pub AreBits : ℕ → ℕ → List Bit → Type 0
AreBits patterns points bits = All (IsBitIn patterns points) bits

-- the bits of point k in the first of some lanes of block b are added to others
pub record AddsLanes (lanes : List ℕ) (b k n : ℕ) (old new : List Bit) : Type 0 where
  pub kept : (x : Bit) → Contains old x → Contains new x
  pub listed : (j : ℕ) → j < n → lane lanes j ≡ true → Contains new (bit_of (pattern_of b j) k)
  pub within : (patterns points : ℕ) → k < points → ((j : ℕ) → j < 512 → lane lanes j ≡ true → pattern_of b j < patterns) → AreBits patterns points old → AreBits patterns points new

-- the first points have each lane, of those that are there, in which a compact point that sees them is Failing
abbrev pub HasLanes : ScanTest → Compactor → List PointRow → ℕ → List ℕ → ℕ → List Bit → Type 0
HasLanes t c rows b there n bits = (k : ℕ) → k < n → (q j : ℕ) → j < 512 → Contains (seeing t c (point_at t k)) q → lane (slice_index_or rows q no_point_row).failing j ≡ true → lane there j ≡ true → Contains bits (bit_of (pattern_of b j) k)

-- the bits of block b that a Failing compact point sees are added to others
pub record AddsUpstreamBits (t : ScanTest) (c : Compactor) (rows : List PointRow) (b : ℕ) (there : List ℕ) (n : ℕ) (old new : List Bit) : Type 0 where
  pub kept : (x : Bit) → Contains old x → Contains new x
  pub lanes : HasLanes t c rows b there n new
  pub within : (patterns : ℕ) → ((j : ℕ) → j < 512 → lane there j ≡ true → pattern_of b j < patterns) → AreBits patterns (length (points_of t)) old → AreBits patterns (length (points_of t)) new

-- the bits of the first patterns upstream of a Failing bit are listed
abbrev pub ListsUpTo : ScanTest → Compactor → List LogFacts → ℕ → List Bit → Type 0
ListsUpTo t c logs patterns bits = (w k q : ℕ) → w < patterns → w < length t.patterns → k < length (points_of t) → q < length c.points → Contains (seeing t c (point_at t k)) q
    → is_failing (compact_class t c logs (bit_of w q)) ≡ true → Contains bits (bit_of w k)

abbrev pub ListsUpstreamBits : ScanTest → Compactor → List LogFacts → List Bit → Type 0
ListsUpstreamBits t c logs bits = ListsUpTo t c logs (length t.patterns) bits

-- a log of all patterns, not cut short, that lists some bits
abbrev pub complete_log : ℕ → List Bit → LogFacts
complete_log patterns bits = record { ranges = record { first = 0; last = patterns - 1 } ∷ []; truncated = false; fails = bits; cuts = [] }
