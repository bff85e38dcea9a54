-- Sessions of one seat over the connections of a door, one after another.
use Rattle.std.specs.Prelude.{◌≡◌, ◌+◌, ℕ, Bool, true, false, if◌then◌else◌, List, [], ◌∷◌, ◌++◌, length, Option, Some}
use Rattle.desk_outside.specs.declared.door.LinkHome.{LinkHome}
use Rattle.desk_outside.specs.Doors.{DoorTold}
use Rattle.final_replies.specs.declared.ends.SessionEnd.{SessionEnd}
use Rattle.final_replies.specs.declared.ends.SessionEnd.TheVariants.{Closed, Ended, Cut, LinkFault, NoMemory}
use Rattle.desk_outside.specs.declared.deed.Deed.{Deed}
use Rattle.desk_answers.specs.Seats.{SeatFacts, Did}
use Rattle.desk_http.specs.Sessions.{IsSession}

-- what a seat did, whatever it was
abbrev pub DidSome : SeatFacts → SeatFacts → Type 0
DidSome old new = (own : List Deed) × (failed : ℕ) × Did own failed old new

abbrev pub is_unserved : SessionEnd → Bool
is_unserved NoMemory = true
is_unserved Closed = false
is_unserved Ended = false
is_unserved Cut = false
is_unserved LinkFault = false

-- a connection with these bytes left was served by a session that ended so, and came home
pub record IsServed (old new : SeatFacts) (left : List ℕ) (home : LinkHome) (end : SessionEnd) : Type 0 where
  pub marks : List ℕ
  pub session : IsSession end marks old new (Some left) (Some []) (Some home.sent)
  pub failed : end ≡ LinkFault → home.failed ≡ true

-- so were these, one after another, and so many of the sessions read and sent nothing for want of memory
abbrev pub AreServed : SeatFacts → List (List ℕ) → List LinkHome → ℕ → SeatFacts → Type 0
AreServed old [] [] unserved new = (new ≡ old) × (unserved ≡ 0)
AreServed old (left ∷ lefts) (home ∷ homes) unserved new =
    (mid : SeatFacts) × (end : SessionEnd) × (others : ℕ) × IsServed old mid left home end × (unserved ≡ others + (if is_unserved end then 1 else 0)) × AreServed mid lefts homes others new
AreServed old [] (home ∷ homes) unserved new = ⊥
AreServed old (left ∷ lefts) [] unserved new = ⊥

-- what a door tells that has given out and taken home these more
abbrev pub with_served : DoorTold → List (List ℕ) → List LinkHome → DoorTold
with_served told given done = record { given = told.given ++ given; done = told.done ++ done; out = told.out }

-- a door that told so before tells what was served
pub record Serves (before : DoorTold) (told : Option DoorTold) (old new : SeatFacts) (ended unserved : ℕ) : Type 0 where
  pub given : List (List ℕ)
  pub done : List LinkHome
  pub told_is : told ≡ Some (with_served before given done)
  pub many : length given ≡ ended
  pub are : AreServed old given done unserved new
