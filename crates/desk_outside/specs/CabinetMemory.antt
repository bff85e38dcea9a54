-- What a cabinet in memory holds.
use Rattle.std.specs.Prelude.{List}
use Rattle.desk_outside.specs.Cabinets.{CabinetTold}
use Rattle.desk_outside.specs.declared.calls.Calls.{Calls}
use Rattle.desk_outside.specs.declared.keeper.MemKeeper.{MemKeeper}
use Rattle.desk_outside.specs.declared.memory.cabinet.MemCabinet.{MemCabinet}

-- the keepers that are still to be handed out
abbrev pub cabinet_keepers : MemCabinet → List MemKeeper
cabinet_keepers c = c.keepers.items

abbrev pub cabinet_told : MemCabinet → CabinetTold
cabinet_told c = record { given = c.given.items; home = c.home.items; out = c.out }

abbrev pub cabinet_calls : MemCabinet → Calls
cabinet_calls c = c.calls
