use Rattle.std.proofs.Common.{◌≡◌, ◌-◌, ◌≤◌, Some}
use Rattle.desk_outside.specs.Doors.{DoorTold}
use Rattle.report_cache.specs.Truth.{IsTrueFor}
use Rattle.desk_http.specs.ServedConnections.{DidSome, Serves}
use Rattle.desk_http.proofs.sessions.serve.serve_door_at.Given as goal

abbrev pub invariant-loop-ended : goal.invariant-loop-ended
invariant-loop-ended g l = record {
  few : l.ended ≤ l.sessions;
  less : l.unserved ≤ l.ended;
  belongs : g.S.SeatAt.belongs l.seat l.desk;
  truth : IsTrueFor l.cache (g.S.SeatAt.facts l.seat l.desk).seen;
  served : (told : DoorTold) → g.O.Door.told l.fn.door ≡ Some told → Serves told (g.O.Door.told l.door) (g.S.SeatAt.facts l.fn.seat l.desk) (g.S.SeatAt.facts l.seat l.desk) l.ended l.unserved;
  did : DidSome (g.S.SeatAt.facts l.fn.seat l.desk) (g.S.SeatAt.facts l.seat l.desk);
  later : g.O.Door.faults l.fn.door ≤ g.O.Door.faults l.door;
}

abbrev pub decreases-loop-ended : goal.decreases-loop-ended
decreases-loop-ended g l = l.sessions - l.ended
