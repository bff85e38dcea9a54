use Rattle.std.proofs.Common.{◌≡◌, ℕ, ◌-◌, ◌<◌, ◌≤◌, true, length, get_or}
use Rattle.scan_model.specs.ScanTest.{point_at}
use Rattle.place_sets.specs.Places.{has_place, room}
use Rattle.chain_compactor.specs.ObservationPoints.{seeing}
use Rattle.chain_compactor.proofs.counts.CompactCounts.mark_point.Given as goal

abbrev pub invariant-loop-place : goal.invariant-loop-place
invariant-loop-place l = record {
  rooms : room l.due ≡ room l.initial.due;
  places : ((q : ℕ) → has_place l.initial.due q ≡ true → q < length l.self.compact.now.points) → (q : ℕ) → has_place l.due q ≡ true → q < length l.self.compact.now.points;
  kept : (q : ℕ) → has_place l.initial.due q ≡ true → has_place l.due q ≡ true;
  marked : (i : ℕ) → i < l.nth → has_place l.due (get_or (seeing l.self.parts.now l.self.compact.now (point_at l.self.parts.now l.point)) i 0) ≡ true;
  nth_le : l.nth ≤ length (seeing l.self.parts.now l.self.compact.now (point_at l.self.parts.now l.point));
}

abbrev pub decreases-loop-place : goal.decreases-loop-place
decreases-loop-place l = length (seeing l.self.parts.now l.self.compact.now (point_at l.self.parts.now l.point)) - l.nth
