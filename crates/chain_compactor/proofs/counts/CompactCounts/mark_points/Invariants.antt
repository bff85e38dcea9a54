use Rattle.std.proofs.Common.{◌≡◌, ℕ, ◌<◌, true, length, get_or}
use Rattle.std.specs.Prelude.{Contains}
use Rattle.scan_model.specs.ScanTest.{point_at}
use Rattle.place_sets.specs.Places.{has_place, room}
use Rattle.chain_compactor.specs.ObservationPoints.{seeing}
use Rattle.chain_compactor.proofs.counts.CompactCounts.mark_points.Given as goal

abbrev pub invariant-loop-point : goal.invariant-loop-point
invariant-loop-point l = record {
  rooms : room l.due ≡ room l.initial.due;
  places : ((q : ℕ) → has_place l.initial.due q ≡ true → q < length l.self.compact.now.points) → (q : ℕ) → has_place l.due q ≡ true → q < length l.self.compact.now.points;
  kept : (q : ℕ) → has_place l.initial.due q ≡ true → has_place l.due q ≡ true;
  marked : (i : ℕ) → i < l.point-index → (q : ℕ) → Contains (seeing l.self.parts.now l.self.compact.now (point_at l.self.parts.now (get_or l.points i 0))) q → has_place l.due q ≡ true;
}
