-- What a door has handed out, and what came home.
use Rattle.std.specs.Prelude.{ℕ, ◌+◌, ◌-◌, List, [], ◌∷◌, ◌++◌, not, ◌==◌}
use Rattle.desk_outside.specs.declared.door.LinkHome.{LinkHome}

-- the bytes that each connection had left when it was handed out, in that order; the connections that are home, in the order of coming home; and how many are out
pub record DoorTold : Type 0 where
  pub given : List (List ℕ)
  pub done : List LinkHome
  pub out : ℕ

-- nothing was handed out
abbrev pub fresh_door : DoorTold
fresh_door = record { given = []; done = []; out = 0 }

-- a connection with these bytes left is handed out
abbrev pub handed : DoorTold → List ℕ → DoorTold
handed told left = record { given = told.given ++ left ∷ []; done = told.done; out = told.out + 1 }

-- a connection came home, with these bytes sent and this count of faults
abbrev pub came_home : DoorTold → List ℕ → ℕ → DoorTold
came_home told sent faults = record {
  given = told.given;
  done = told.done ++ record { sent = sent; failed = not (faults == 0) } ∷ [];
  out = told.out - 1;
}
