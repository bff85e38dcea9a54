-- Doors of a street, from their handing out to their coming home.
use Rattle.std.specs.Prelude.{◌≡◌, ◌+◌, ◌-◌, ◌==◌, ℕ, Bool, not, List, ◌++◌, length, map, replicate, Option, None, Some}
use Rattle.desk_outside.specs.declared.street.DoorHome.{DoorHome}
use Rattle.desk_outside.specs.Doors.{DoorTold, fresh_door}
use Rattle.desk_outside.specs.Streets.{StreetTold}

-- what a door tells, if it does, and its count of faults
pub record DoorFacts : Type 0 where
  pub told : Option DoorTold
  pub faults : ℕ

-- a door that was just handed out: its count is 0, and it tells that it handed out nothing
pub record IsFreshDoor (d : DoorFacts) : Type 0 where
  pub unfailed : d.faults ≡ 0
  pub unused : (told : DoorTold) → d.told ≡ Some told → told ≡ fresh_door

-- its count isn't 0
abbrev pub has_failed : DoorFacts → Bool
has_failed d = not (d.faults == 0)

-- a door that tells
abbrev pub Tells : DoorFacts → Type 0
Tells d = (told : DoorTold) × (d.told ≡ Some told)

abbrev pub told_or_fresh : Option DoorTold → DoorTold
told_or_fresh None = fresh_door
told_or_fresh (Some told) = told

-- a door as the street tells it when it is home
abbrev pub home_of : DoorFacts → DoorHome
home_of d = record { given = (told_or_fresh d.told).given; done = (told_or_fresh d.told).done; failed = has_failed d }

-- so many doors of this port were handed out
abbrev pub with_doors_out : StreetTold → ℕ → ℕ → StreetTold
with_doors_out told port doors = record { ports = told.ports ++ replicate doors port; home = told.home; out = told.out + doors }

-- these doors came home
abbrev pub with_doors_home : StreetTold → List DoorFacts → StreetTold
with_doors_home told doors = record { ports = told.ports; home = told.home ++ map home_of doors; out = told.out - length doors }
