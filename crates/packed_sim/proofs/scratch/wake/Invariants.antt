use Rattle.std.proofs.Common.{◌≡◌, ◌||◌, ℕ, take, eqb}
use Rattle.std.specs.List.{list_any}
use Rattle.place_sets.specs.Places.{has_place, room}
use Rattle.packed_sim.proofs.scratch.wake.Given as goal

abbrev pub invariant-loop-place : goal.invariant-loop-place
invariant-loop-place l = record {
  room_is : room l.waiting ≡ room l.fn.waiting;
  so_far : (k : ℕ) → has_place l.waiting k ≡ (list_any (eqb k) (take l.place-index l.places) || has_place l.fn.waiting k);
}
