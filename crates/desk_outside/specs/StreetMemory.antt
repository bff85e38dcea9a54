-- What a street in memory holds.
use Rattle.std.specs.Prelude.{List}
use Rattle.desk_outside.specs.Streets.{StreetTold}
use Rattle.desk_outside.specs.declared.calls.Calls.{Calls}
use Rattle.desk_outside.specs.declared.memory.door.MemDoor.{MemDoor}
use Rattle.desk_outside.specs.declared.memory.street.MemStreet.{MemStreet}

-- the doors that are still to be handed out
abbrev pub street_doors : MemStreet → List MemDoor
street_doors s = s.doors.items

abbrev pub street_told : MemStreet → StreetTold
street_told s = record { ports = s.ports.items; home = s.home.items; out = s.out }

abbrev pub street_calls : MemStreet → Calls
street_calls s = s.calls
