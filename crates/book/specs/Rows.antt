-- Rows of a keeper.
use Rattle.std.specs.Prelude.{Bool, if◌then◌else◌, List, [], ◌∷◌, ◌++◌}
use Rattle.desk_outside.specs.declared.deed.Deed.{Deed}
use Rattle.desk_outside.specs.declared.keeper.KeepFault.{KeepFault}
use Rattle.desk_outside.specs.declared.keeper.KeepFault.TheVariants as keep_fault
use Rattle.book.specs.declared.opening.StartFault.{StartFault}
use Rattle.book.specs.declared.opening.StartFault.TheVariants as start_fault

-- with the deed at the end, where it fits
abbrev pub added_if : Bool → List Deed → Deed → List Deed
added_if fitting deeds deed = if fitting then deeds ++ deed ∷ [] else deeds

-- what a keeper's fault is to an opening
abbrev pub start_fault_of : KeepFault → StartFault
start_fault_of keep_fault.Failed = start_fault.Failed
start_fault_of keep_fault.NoMemory = start_fault.NoMemory
