use Rattle.std.proofs.Common.{◌≡◌, ◌≤◌, ◌-◌, None, Some, length, vec_capacity}
use Rattle.std.specs.Prelude.{All}
use Rattle.desk_outside.specs.Streets.{StreetTold}
use Rattle.desk_serve.specs.Doors.{IsFreshDoor, Tells, with_doors_out}
use Rattle.desk_serve.proofs.doors.take_doors.Given as goal

abbrev pub invariant-loop-street : goal.invariant-loop-street
invariant-loop-street g l = record {
  few : length l.doors.items ≤ l.count;
  room : l.count ≤ vec_capacity l.doors;
  fresh : All (λ door. IsFreshDoor (record { told = g.S.D.Door.told door; faults = g.S.D.Door.faults door })) l.doors.items;
  out : (told : StreetTold) → g.S.Street.told l.fn.street ≡ Some told → g.S.Street.told l.street ≡ Some (with_doors_out told l.port (length l.doors.items));
  telling : (told : StreetTold) → g.S.Street.told l.fn.street ≡ Some told → All (λ door. Tells (record { told = g.S.D.Door.told door; faults = g.S.D.Door.faults door })) l.doors.items;
  silent : g.S.Street.told l.fn.street ≡ None → g.S.Street.told l.street ≡ None;
  later : g.S.Street.faults l.fn.street ≤ g.S.Street.faults l.street;
}

abbrev pub decreases-loop-street : goal.decreases-loop-street
decreases-loop-street g l = l.count - length l.doors.items
