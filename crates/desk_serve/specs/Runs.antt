-- What a run comes to, by what the sink, the street and the cabinet tell.
use Rattle.std.specs.Prelude.{◌≡◌, ◌⊎◌, ◌<◌, ◌≤◌, ◌-◌, ◌*◌, ◌^◌, ℕ, true, false, min, List, [], ◌++◌, length, drop, replicate, All, Option, Some}
use Rattle.std.specs.Io.KnownBytes.{append_known}
use Rattle.desk_outside.specs.declared.deed.Deed.{Deed}
use Rattle.desk_outside.specs.declared.street.DoorHome.{DoorHome}
use Rattle.desk_outside.specs.Bytes.{AddsPart}
use Rattle.desk_outside.specs.Faults.{Rose}
use Rattle.desk_outside.specs.Streets.{StreetTold}
use Rattle.desk_outside.specs.Cabinets.{CabinetTold, keeper_handed, keeper_home}
use Rattle.book.specs.LegalDeeds.{is_legal, spoiled_row}
use Rattle.desk_answers.specs.Seats.{IsPrefix}
use Rattle.run_ends.specs.declared.ending.Ending.{Ending}
use Rattle.run_ends.specs.declared.ending.Ending.TheVariants.{Done, SinkFault, StoreFault, NoMemory, Spoiled, StreetFault}
use Rattle.desk_serve.specs.declared.serving.ServiceOrder.{ServiceOrder}
use Rattle.run_ends.specs.Endings.{status_of}
use Rattle.desk_serve.specs.Lines.{first_line, line_of}
use Rattle.desk_serve.specs.HomeDoors.{AreServedBy}

-- the most deeds that a store may have
abbrev pub max_deeds : ℕ
max_deeds = 1000000

-- what a run is asked for
pub record RunOrder : Type 0 where
  pub port : ℕ
  pub workers : ℕ
  pub sessions : ℕ
  pub store : List ℕ

abbrev pub order_of : ServiceOrder → RunOrder
order_of s = record { port = s.port; workers = s.workers; sessions = s.sessions; store = s.store.now }

-- what the sink, the street and the cabinet tell, where they do, and their counts of faults
pub record Outside : Type 0 where
  pub written : Option (List ℕ)
  pub street : Option StreetTold
  pub cabinet : Option CabinetTold
  pub sink_faults : ℕ
  pub street_faults : ℕ
  pub cabinet_faults : ℕ

-- ---- the store

-- a keeper of these deeds was handed out by this name, and came home with those
abbrev pub was_kept : CabinetTold → List ℕ → List Deed → List Deed → ℕ → CabinetTold
was_kept told store before after faults = keeper_home (keeper_handed told store before) after faults

-- no keeper was handed out, or it came home with the deeds that it had
abbrev pub IsUnused : List ℕ → CabinetTold → Option CabinetTold → Type 0
IsUnused store told now = (now ≡ Some told) ⊎ ((deeds : List Deed) × (faults : ℕ) × (now ≡ Some (was_kept told store deeds deeds faults)))

-- nothing was asked of the street, and the store is as it was
pub record IsUnserved (asked : RunOrder) (old new : Outside) (untouched : Type 0) : Type 0 where
  pub street : untouched
  pub cabinet : (told : CabinetTold) → old.cabinet ≡ Some told → IsUnused asked.store told new.cabinet

-- ---- the doors

-- doors of this port were handed out, and these came home
abbrev pub doors_home : StreetTold → ℕ → List DoorHome → StreetTold
doors_home told port homes = record { ports = told.ports ++ replicate (length homes) port; home = told.home ++ homes; out = told.out }

-- So many doors came home, each with connections of this kind, served from the deeds before to those after. The replies that say that the
-- keeper failed are at most as many as the faults with which it came home, or these stand at their last value.
pub record AreHome (asked : RunOrder) (told : StreetTold) (now : Option StreetTold) (doors unserved : ℕ) (links : DoorHome → Type 0) (before after : List Deed) (faults : ℕ) : Type 0 where
  pub homes : List DoorHome
  pub told_is : now ≡ Some (doors_home told asked.port homes)
  pub many : length homes ≡ doors
  pub each : All links homes
  pub replied : ℕ
  pub served : AreServedBy max_deeds 0 before after homes replied unserved
  pub few : min replied (2 ^ 64 - 1) ≤ faults

-- the deeds before lead those after, both are legal, and those that came carry the numbers of so many seats
pub record IsGrown (seats : ℕ) (before after : List Deed) : Type 0 where
  pub prefix : IsPrefix before after
  pub legal_before : is_legal max_deeds before ≡ true
  pub legal_after : is_legal max_deeds after ≡ true
  pub by_seats : All (λ deed. deed.by < seats) (drop (length before) after)

-- the doors that came home were served from the deeds of the store as it was to those as it is
pub record WereServed (asked : RunOrder) (old new : Outside) (doors unserved : ℕ) (links : DoorHome → Type 0) (before after : List Deed) : Type 0 where
  pub grown : IsGrown doors before after
  pub faults : ℕ
  pub cabinet : (told : CabinetTold) → old.cabinet ≡ Some told → new.cabinet ≡ Some (was_kept told asked.store before after faults)
  pub street : (told : StreetTold) → old.street ≡ Some told → AreHome asked told new.street doors unserved links before after faults

-- all the connections that were asked for
abbrev pub HasAll : RunOrder → DoorHome → Type 0
HasAll asked home = length home.done ≡ asked.sessions

-- all of them, unless the door failed
abbrev pub HasAllUnlessFailed : RunOrder → DoorHome → Type 0
HasAllUnlessFailed asked home = home.failed ≡ false → HasAll asked home

abbrev pub HasNone : DoorHome → Type 0
HasNone home = home.done ≡ []

-- ---- the endings

-- every session of every door ended
pub record IsDone (asked : RunOrder) (old new : Outside) (sessions deeds : ℕ) : Type 0 where
  pub before : List Deed
  pub after : List Deed
  pub served : WereServed asked old new asked.workers 0 (HasAll asked) before after
  pub sessions_are : sessions ≡ asked.workers * asked.sessions
  pub deeds_are : deeds ≡ length after

-- every session of every door ended, some of them for want of memory before they read anything
pub record LackedMemory (asked : RunOrder) (old new : Outside) : Type 0 where
  pub before : List Deed
  pub after : List Deed
  pub unserved : ℕ
  pub some : 0 < unserved
  pub served : WereServed asked old new asked.workers unserved (HasAll asked) before after

-- the keeper came home with its deeds, of which this is the first that doesn't fit those before it
pub record IsSpoiled (asked : RunOrder) (old new : Outside) (untouched : Type 0) (row : ℕ) : Type 0 where
  pub street : untouched
  pub cabinet : (told : CabinetTold) → old.cabinet ≡ Some told
      → (deeds : List Deed) × (faults : ℕ) × (new.cabinet ≡ Some (was_kept told asked.store deeds deeds faults)) × (spoiled_row max_deeds deeds ≡ Some row)

-- a door wasn't handed out, so that those before it came home as they were
pub record LackedDoor (asked : RunOrder) (old new : Outside) : Type 0 where
  pub deeds : List Deed
  pub doors : ℕ
  pub few : doors < asked.workers
  pub served : WereServed asked old new doors 0 HasNone deeds deeds

-- a door failed, and the others went on
pub record DoorFailed (asked : RunOrder) (old new : Outside) : Type 0 where
  pub before : List Deed
  pub after : List Deed
  pub unserved : ℕ
  pub served : WereServed asked old new asked.workers unserved (HasAllUnlessFailed asked) before after

-- what holds at an ending, and the bytes that are due with it
abbrev pub IsDue : RunOrder → Outside → Outside → Type 0 → Ending → List ℕ → Type 0
IsDue asked old new untouched (Done sessions deeds) text = IsDone asked old new sessions deeds × (text ≡ first_line asked.port ++ line_of (Done sessions deeds))
IsDue asked old new untouched SinkFault text = ⊥
IsDue asked old new untouched StoreFault text = IsUnserved asked old new untouched × Rose old.cabinet_faults new.cabinet_faults × (text ≡ line_of StoreFault)
IsDue asked old new untouched NoMemory text = (IsUnserved asked old new untouched × (text ≡ line_of NoMemory)) ⊎ (LackedMemory asked old new × (text ≡ first_line asked.port ++ line_of NoMemory))
IsDue asked old new untouched (Spoiled row) text = IsSpoiled asked old new untouched row × (text ≡ line_of (Spoiled row))
IsDue asked old new untouched StreetFault text =
    Rose old.street_faults new.street_faults × ((LackedDoor asked old new × (text ≡ line_of StreetFault)) ⊎ (DoorFailed asked old new × (text ≡ first_line asked.port ++ line_of StreetFault)))

-- the first line was due, and the doors came home as they were
pub record IsFirstDue (asked : RunOrder) (old new : Outside) (text : List ℕ) : Type 0 where
  pub deeds : List Deed
  pub served : WereServed asked old new asked.workers 0 HasNone deeds deeds
  pub text_is : text ≡ first_line asked.port

-- the sink failed at bytes that were due
pub record IsCutShort (asked : RunOrder) (old new : Outside) (untouched : Type 0) : Type 0 where
  pub text : List ℕ
  pub is : IsFirstDue asked old new text ⊎ ((due : Ending) × IsDue asked old new untouched due text)
  pub part : AddsPart old.written new.written text
  pub rose : Rose old.sink_faults new.sink_faults

-- the bytes that were due were written
pub record IsWritten (asked : RunOrder) (old new : Outside) (untouched : Type 0) (ending : Ending) : Type 0 where
  pub text : List ℕ
  pub is : IsDue asked old new untouched ending text
  pub wrote : new.written ≡ append_known old.written text

-- How a run ended. `untouched` says that the street is as it was.
abbrev pub HasEnded : RunOrder → Outside → Outside → Type 0 → Ending → Type 0
HasEnded asked old new untouched ending = IsWritten asked old new untouched ending ⊎ ((ending ≡ SinkFault) × IsCutShort asked old new untouched)

-- how a run ended, by its exit status
abbrev pub HasRun : RunOrder → Outside → Outside → Type 0 → ℕ → Type 0
HasRun asked old new untouched status = (ending : Ending) × (status ≡ status_of ending) × HasEnded asked old new untouched ending
