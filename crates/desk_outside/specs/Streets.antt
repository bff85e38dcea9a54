-- What a street has handed out, and what came home.
use Rattle.std.specs.Prelude.{ℕ, ◌+◌, ◌-◌, List, [], ◌∷◌, ◌++◌, not, ◌==◌}
use Rattle.desk_outside.specs.declared.street.DoorHome.{DoorHome}
use Rattle.desk_outside.specs.Doors.{DoorTold}

-- the port of each door that was handed out, in that order; the doors that are home, in the order of coming home; and how many are out
pub record StreetTold : Type 0 where
  pub ports : List ℕ
  pub home : List DoorHome
  pub out : ℕ

-- nothing was handed out
abbrev pub fresh_street : StreetTold
fresh_street = record { ports = []; home = []; out = 0 }

-- a door of this port is handed out
abbrev pub door_handed : StreetTold → ℕ → StreetTold
door_handed told port = record { ports = told.ports ++ port ∷ []; home = told.home; out = told.out + 1 }

-- a door came home, with what it tells and this count of faults
abbrev pub door_home : StreetTold → DoorTold → ℕ → StreetTold
door_home told door faults = record {
  ports = told.ports;
  home = told.home ++ record { given = door.given; done = door.done; failed = not (faults == 0) } ∷ [];
  out = told.out - 1;
}
