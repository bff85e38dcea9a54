-- What workers do with their seats and their doors.
use Rattle.std.specs.Prelude.{◌≡◌, ◌⊎◌, ◌≤◌, ℕ, Bool, true, if◌then◌else◌, nat_lt, List, [], ◌∷◌, map, Option, None, Some}
use Rattle.std.specs.List.{list_any}
use Rattle.desk_outside.specs.Doors.{DoorTold}
use Rattle.desk_outside.specs.Faults.{Rose}
use Rattle.shared_desk.specs.Seats.{DeskFacts, SeatFacts}
use Rattle.desk_http.specs.declared.sessions.serve.Served.{Served}
use Rattle.desk_answers.specs.DeskSeats.{of_desk, IsSeatOf}
use Rattle.desk_http.specs.ServedConnections.{Serves, DidSome}
use Rattle.report_cache.specs.Truth.{CacheFacts, IsTrueFor}
use Rattle.run_ends.specs.declared.ending.Ending.{Ending}
use Rattle.run_ends.specs.declared.ending.Ending.TheVariants.{NoMemory, StreetFault}
use Rattle.desk_serve.specs.Doors.{DoorFacts}

-- how many reports each worker keeps at most
abbrev pub cache_entries : ℕ
cache_entries = 16

-- a worker with a seat of the desk, and with a cache that is true
pub record CanWork (desk : DeskFacts) (seat : SeatFacts) (cache : CacheFacts) : Type 0 where
  pub belongs : IsSeatOf seat desk
  pub truth : IsTrueFor cache seat.seen

-- a worker's seat and door before and after, and what became of the door's sessions
pub record Work : Type 0 where
  pub seat_before : SeatFacts
  pub seat : SeatFacts
  pub door_before : DoorFacts
  pub door : DoorFacts
  pub served : Served

-- the seat served so many connections of the door, unless the door failed
pub record HasWorked (desk : DeskFacts) (sessions : ℕ) (w : Work) : Type 0 where
  pub stays : IsSeatOf w.seat desk
  pub did : DidSome (of_desk w.seat_before) (of_desk w.seat)
  pub serves : (told : DoorTold) → w.door_before.told ≡ Some told → Serves told w.door.told (of_desk w.seat_before) (of_desk w.seat) w.served.ended w.served.unserved
  pub ended : (w.served.door_failed ≡ true) ⊎ (w.served.ended ≡ sessions)
  pub later : w.door_before.faults ≤ w.door.faults
  pub rose : w.served.door_failed ≡ true → Rose w.door_before.faults w.door.faults

abbrev pub AllWorked : DeskFacts → ℕ → List Work → Type 0
AllWorked desk sessions [] = Unit {0}
AllWorked desk sessions (w ∷ ws) = HasWorked desk sessions w × AllWorked desk sessions ws

-- a door failed
abbrev pub any_failed : List Work → Bool
any_failed ws = list_any (λ w. w.served.door_failed) ws

-- a session had no memory to begin with
abbrev pub any_unserved : List Work → Bool
any_unserved ws = list_any (λ w. nat_lt 0 w.served.unserved) ws

-- the ending in the place of the last line, if there is one
abbrev pub instead_of : Bool → Bool → Option Ending
instead_of failed unserved = if failed then Some StreetFault else (if unserved then Some NoMemory else None)

-- the seats served the doors, and stand so with them after it
pub record HasServed (desk : DeskFacts) (sessions : ℕ) (seats_before : List SeatFacts) (doors_before : List DoorFacts) (seats : List SeatFacts) (doors : List DoorFacts) (instead : Option Ending) : Type 0 where
  pub works : List Work
  pub seats_were : map (λ w. w.seat_before) works ≡ seats_before
  pub seats_are : map (λ w. w.seat) works ≡ seats
  pub doors_were : map (λ w. w.door_before) works ≡ doors_before
  pub doors_are : map (λ w. w.door) works ≡ doors
  pub worked : AllWorked desk sessions works
  pub instead_is : instead ≡ instead_of (any_failed works) (any_unserved works)
