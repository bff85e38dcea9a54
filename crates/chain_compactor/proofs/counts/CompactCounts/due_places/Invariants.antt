use Rattle.std.proofs.Common.{◌≡◌, ℕ, ◌<◌, ◌≤◌, true, length, get_or}
use Rattle.std.specs.Prelude.{Contains}
use Rattle.scan_model.specs.ScanTest.{points_of, point_at}
use Rattle.place_sets.specs.Places.{has_place, room}
use Rattle.packed_sim.specs.PackedParts.{observed_at}
use Rattle.chain_compactor.specs.ObservationPoints.{seeing}
use Rattle.chain_compactor.proofs.counts.CompactCounts.due_places.Given as goal

abbrev pub invariant-loop-net : goal.invariant-loop-net
invariant-loop-net l = record {
  rooms : length l.self.compact.now.points ≤ room l.due;
  places : (q : ℕ) → has_place l.due q ≡ true → q < length l.self.compact.now.points;
  marked : (i : ℕ) → i < l.net-index → (k : ℕ) → k < length (points_of l.self.parts.now) → observed_at l.self.parts.now k ≡ get_or l.nets i 0
      → (q : ℕ) → Contains (seeing l.self.parts.now l.self.compact.now (point_at l.self.parts.now k)) q → has_place l.due q ≡ true;
}
