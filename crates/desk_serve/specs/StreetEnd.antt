-- The sessions of a desk over the doors of a street.
use Rattle.std.specs.Prelude.{◌≡◌, ◌⊎◌, ◌<◌, ℕ, true, List, [], ◌∷◌, length, All, slice_get, Option, None, Some}
use Rattle.std.specs.Io.KnownBytes.{append_known}
use Rattle.desk_outside.specs.declared.deed.Deed.{Deed}
use Rattle.desk_outside.specs.declared.street.DoorHome.{DoorHome}
use Rattle.desk_outside.specs.Bytes.{AddsPart}
use Rattle.desk_outside.specs.Streets.{StreetTold}
use Rattle.book.specs.Changes.{BookFacts}
use Rattle.book.specs.LegalDeeds.{is_legal}
use Rattle.shared_desk.specs.Seats.{DeskFacts, SeatFacts}
use Rattle.shared_desk.specs.StartAndEnd.{AreAllSeats, fresh_seat}
use Rattle.run_ends.specs.declared.ending.Ending.{Ending}
use Rattle.run_ends.specs.declared.ending.Ending.TheVariants.{SinkFault, StreetFault, NoMemory}
use Rattle.desk_serve.specs.Lines.{first_line}
use Rattle.desk_serve.specs.Doors.{DoorFacts, IsFreshDoor, Tells}
use Rattle.desk_serve.specs.Work.{HasServed}
use Rattle.desk_serve.specs.Runs.{RunOrder, AreHome, IsGrown, HasAll, HasAllUnlessFailed, HasNone, max_deeds}

-- ---- a desk that was opened

-- the deeds of the opening, which every seat has seen
abbrev pub opened_deeds : List SeatFacts → List Deed
opened_deeds [] = []
opened_deeds (seat ∷ seats) = seat.seen

-- a desk that was just opened, with all its seats
pub record IsOpened (workers : ℕ) (desk : DeskFacts) (seats : List SeatFacts) : Type 0 where
  pub count : desk.seats ≡ workers
  pub limited : desk.limit ≡ max_deeds
  pub base : desk.base ≡ length (opened_deeds seats)
  pub legal : is_legal max_deeds (opened_deeds seats) ≡ true
  pub all : AreAllSeats desk seats
  pub each : (i : ℕ) (seat : SeatFacts) → slice_get seats i ≡ Some seat → seat ≡ fresh_seat desk (opened_deeds seats) i

-- ---- until the sessions are over

-- doors that were just handed out; they tell where the street does
pub record AreFresh (tells : Type 0) (doors : List DoorFacts) : Type 0 where
  pub fresh : All IsFreshDoor doors
  pub telling : tells → All Tells doors

-- a door wasn't handed out
pub record DoorLacks (asked : RunOrder) (tells rose : Type 0) (seats : List SeatFacts) (written_before written_after : Option (List ℕ)) (seats_after : List SeatFacts) (doors : List DoorFacts) (instead : Option Ending) : Type 0 where
  pub instead_is : instead ≡ Some StreetFault
  pub same : seats_after ≡ seats
  pub fresh : AreFresh tells doors
  pub few : length doors < asked.workers
  pub unwritten : written_after ≡ written_before
  pub cause : rose

-- the first line wasn't written
pub record LineLacks (asked : RunOrder) (tells rose : Type 0) (seats : List SeatFacts) (written_before written_after : Option (List ℕ)) (seats_after : List SeatFacts) (doors : List DoorFacts) (instead : Option Ending) : Type 0 where
  pub instead_is : instead ≡ Some SinkFault
  pub same : seats_after ≡ seats
  pub fresh : AreFresh tells doors
  pub all : length doors ≡ asked.workers
  pub part : AddsPart written_before written_after (first_line asked.port)
  pub cause : rose

-- the first line was written, and the doors were served
pub record DoorsServed (asked : RunOrder) (tells : Type 0) (desk : DeskFacts) (seats : List SeatFacts) (written_before written_after : Option (List ℕ)) (seats_after : List SeatFacts) (doors_after : List DoorFacts) (instead : Option Ending) : Type 0 where
  pub doors : List DoorFacts
  pub fresh : AreFresh tells doors
  pub all : length doors ≡ asked.workers
  pub wrote : written_after ≡ append_known written_before (first_line asked.port)
  pub served : HasServed desk asked.sessions seats doors seats_after doors_after instead

-- one of the three
abbrev pub StreetServed : RunOrder → Type 0 → Type 0 → Type 0 → DeskFacts → List SeatFacts → Option (List ℕ) → Option (List ℕ) → List SeatFacts → List DoorFacts → Option Ending → Type 0
StreetServed asked tells street_rose sink_rose desk seats written_before written_after seats_after doors instead =
    DoorLacks asked tells street_rose seats written_before written_after seats_after doors instead
    ⊎ LineLacks asked tells sink_rose seats written_before written_after seats_after doors instead
    ⊎ DoorsServed asked tells desk seats written_before written_after seats_after doors instead

-- ---- the book at the end

-- the doors that came home were served from these deeds to those of the book
pub record OverBook (asked : RunOrder) (street_before street_after : Option StreetTold) (doors unserved : ℕ) (links : DoorHome → Type 0) (deeds : List Deed) (book : BookFacts) : Type 0 where
  pub grown : IsGrown doors deeds book.deeds
  pub street : (told : StreetTold) → street_before ≡ Some told → AreHome asked told street_after doors unserved links deeds book.deeds book.faults

-- nothing was asked of the street for want of memory
pub record NothingAsked (untouched : Type 0) (written_before written_after : Option (List ℕ)) (deeds : List Deed) (book : BookFacts) : Type 0 where
  pub street : untouched
  pub same : book.deeds ≡ deeds
  pub unwritten : written_after ≡ written_before

-- what stands where the ending is another than the last line's, or that one
abbrev pub IsOver : RunOrder → Type 0 → Type 0 → Type 0 → Option StreetTold → Option StreetTold → Option (List ℕ) → Option (List ℕ) → List Deed → Option Ending → BookFacts → Type 0
IsOver asked untouched street_rose sink_rose street_before street_after written_before written_after deeds None book =
    OverBook asked street_before street_after asked.workers 0 (HasAll asked) deeds book × (written_after ≡ append_known written_before (first_line asked.port))
IsOver asked untouched street_rose sink_rose street_before street_after written_before written_after deeds (Some NoMemory) book =
    NothingAsked untouched written_before written_after deeds book
    ⊎ ((unserved : ℕ) × (0 < unserved) × OverBook asked street_before street_after asked.workers unserved (HasAll asked) deeds book × (written_after ≡ append_known written_before (first_line asked.port)))
IsOver asked untouched street_rose sink_rose street_before street_after written_before written_after deeds (Some StreetFault) book =
    street_rose × (((doors : ℕ) × (doors < asked.workers) × (book.deeds ≡ deeds) × OverBook asked street_before street_after doors 0 HasNone deeds book × (written_after ≡ written_before))
    ⊎ ((unserved : ℕ) × OverBook asked street_before street_after asked.workers unserved (HasAllUnlessFailed asked) deeds book × (written_after ≡ append_known written_before (first_line asked.port))))
IsOver asked untouched street_rose sink_rose street_before street_after written_before written_after deeds (Some SinkFault) book =
    sink_rose × (book.deeds ≡ deeds) × OverBook asked street_before street_after asked.workers 0 HasNone deeds book × AddsPart written_before written_after (first_line asked.port)
IsOver asked untouched street_rose sink_rose street_before street_after written_before written_after deeds (Some _) book = ⊥
