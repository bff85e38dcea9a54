use Rattle.std.proofs.Common.{◌≡◌, ◌≤◌, map, vec_capacity}
use Rattle.desk_serve.proofs.workers.parted.Given as goal

abbrev pub invariant-loop-worker : goal.invariant-loop-worker
invariant-loop-worker g l = record {
  seats : l.seats.items ≡ map (λ w. w.seat) l.yielded;
  doors : l.doors.items ≡ map (λ w. w.door) l.yielded;
  room_for_seats : vec_capacity l.fn.seats ≤ vec_capacity l.seats;
  room_for_doors : vec_capacity l.fn.doors ≤ vec_capacity l.doors;
}
