-- What a door in memory holds.
use Rattle.std.specs.Prelude.{◌≡◌, List, []}
use Rattle.desk_outside.specs.Doors.{DoorTold, fresh_door}
use Rattle.desk_outside.specs.Schedule.{fresh_calls}
use Rattle.desk_outside.specs.declared.calls.Calls.{Calls}
use Rattle.desk_outside.specs.declared.memory.link.MemLink.{MemLink}
use Rattle.desk_outside.specs.declared.memory.door.MemDoor.{MemDoor}

-- the connections that are still to be handed out
abbrev pub door_links : MemDoor → List MemLink
door_links d = d.links.items

abbrev pub door_told : MemDoor → DoorTold
door_told d = record { given = d.given.items; done = d.done.items; out = d.out }

abbrev pub door_calls : MemDoor → Calls
door_calls d = d.calls

-- nothing was handed out, and its count is 0
abbrev pub IsUnusedDoor : MemDoor → Type 0
IsUnusedDoor d = (door_told d ≡ fresh_door) × ((door_calls d).faults ≡ 0)

-- it has no connection to hand out, and no call of it is made or listed
abbrev pub IsEmptyDoor : MemDoor → Type 0
IsEmptyDoor d = (door_links d ≡ []) × (door_told d ≡ fresh_door) × (door_calls d ≡ fresh_calls [])
