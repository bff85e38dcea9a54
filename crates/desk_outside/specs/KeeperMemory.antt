-- What keepers in memory hold.
use Rattle.std.specs.Prelude.{◌≡◌, List, []}
use Rattle.desk_outside.specs.Schedule.{fresh_calls}
use Rattle.desk_outside.specs.declared.calls.Calls.{Calls}
use Rattle.desk_outside.specs.declared.deed.Deed.{Deed}
use Rattle.desk_outside.specs.declared.keeper.MemKeeper.{MemKeeper}
use Rattle.desk_outside.specs.declared.keeper.SureKeeper.{SureKeeper}

abbrev pub keeper_rows : MemKeeper → List Deed
keeper_rows k = k.deeds

abbrev pub keeper_calls : MemKeeper → Calls
keeper_calls k = k.calls

abbrev pub sure_rows : SureKeeper → List Deed
sure_rows k = k.deeds

-- its count is 0
abbrev pub HasNotFailed : MemKeeper → Type 0
HasNotFailed k = (keeper_calls k).faults ≡ 0

-- it has no deed, and no call of it is made or listed
abbrev pub IsEmptyKeeper : MemKeeper → Type 0
IsEmptyKeeper k = (keeper_rows k ≡ []) × (keeper_calls k ≡ fresh_calls [])
