use Rattle.std.proofs.Common.{◌≡◌, ◌≤◌, true, None, Some, map}
use Rattle.std.specs.List.{list_any}
use Rattle.desk_outside.specs.Faults.{Rose}
use Rattle.desk_outside.specs.Streets.{StreetTold}
use Rattle.desk_serve.specs.Doors.{has_failed, with_doors_home}
use Rattle.desk_serve.proofs.doors.hand_back.Given as goal

abbrev pub invariant-loop-door : goal.invariant-loop-door
invariant-loop-door g l = record {
  home : (told : StreetTold) → g.S.Street.told l.fn.street ≡ Some told → g.S.Street.told l.street ≡ Some (with_doors_home told (map (λ door. record { told = g.S.D.Door.told door; faults = g.S.D.Door.faults door }) l.yielded));
  silent : g.S.Street.told l.fn.street ≡ None → g.S.Street.told l.street ≡ None;
  later : g.S.Street.faults l.fn.street ≤ g.S.Street.faults l.street;
  failed : list_any has_failed (map (λ door. record { told = g.S.D.Door.told door; faults = g.S.D.Door.faults door }) l.yielded) ≡ true → Rose (g.S.Street.faults l.fn.street) (g.S.Street.faults l.street);
}
