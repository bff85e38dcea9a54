-- What the counting of faults through a compactor works with.
use Rattle.std.specs.Prelude.{◌≡◌, ℕ, ◌<◌, List, length, map, ◌&&◌, None, slice_index_or, Contains, true}
use Rattle.scan_model.specs.declared.values.Tri.{Tri}
use Rattle.scan_model.specs.declared.parts.Point.{Point}
use Rattle.scan_model.specs.Values.{are_opposite, xor_of}
use Rattle.scan_model.specs.ScanTest.{ScanTest}
use Rattle.scan_model.specs.Suspect.{observed_net}
use Rattle.lane_rows.specs.Lanes.{lane}
use Rattle.lane_rows.specs.Planes.{Planes, held}
use Rattle.lane_rows.specs.Sources.{no_planes}
use Rattle.place_sets.specs.Places.{has_place}
use Rattle.lane_rows.specs.GoodRows.{pattern_of}
use Rattle.fail_logs.specs.FrameFacts.{point_among}
use Rattle.fault_effects.specs.FaultModel.{Table}
use Rattle.compact_points.specs.Channels.{Compactor}
use Rattle.compact_points.specs.Compaction.{compact_value}
use Rattle.chain_compactor.specs.Flips.{members_at}

abbrev pub expected_at : List Planes → ℕ → Planes
expected_at rows q = slice_index_or rows q no_planes

-- for each compact point the row of what it shows without a fault in the patterns of block b
pub record AreExpected (t : ScanTest) (c : Compactor) (b : ℕ) (rows : List Planes) : Type 0 where
  pub len : length rows ≡ length c.points
  pub value : (q j : ℕ) → q < length c.points → j < 512 → pattern_of b j < length t.patterns → held (expected_at rows q) j ≡ compact_value t c None (pattern_of b j) (point_among c.points q)

-- at place q in lane j, if it is one of these lanes, the XOR of what the points upstream of it show is the opposite of the good one
abbrev pub differs_in : ScanTest → Compactor → List ℕ → (ℕ → Point → Tri) → (ℕ → Point → Tri) → Table
differs_in t c lanes good shown q j = lane lanes j && are_opposite (xor_of (map (good j) (members_at t c q))) (xor_of (map (shown j) (members_at t c q)))

-- the places of a set alone
abbrev pub within_set : List ℕ → Table → Table
within_set set table q j = has_place set q && table q j

-- the set has each place downstream of a point that observes one of these nets, and no others than places
pub record AreDue (t : ScanTest) (c : Compactor) (nets : List ℕ) (set : List ℕ) : Type 0 where
  pub places : (q : ℕ) → has_place set q ≡ true → q < length c.points
  pub all : (q : ℕ) (p : Point) → q < length c.points → Contains (members_at t c q) p → Contains nets (observed_net t p) → has_place set q ≡ true
