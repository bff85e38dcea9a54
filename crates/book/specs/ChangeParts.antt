-- Parts of a change.
use Rattle.std.specs.Prelude.{◌≡◌, ◌≤◌, ℕ, if◌then◌else◌, List, Option, option_map, Result, Ok, Err, IsErrOf}
use Rattle.std.specs.Str.{bytes_eq}
use Rattle.sha2.specs.Sha256.{sha256}
use Rattle.desk_outside.specs.declared.deed.Deed.{Deed}
use Rattle.desk_outside.specs.declared.keeper.KeepFault.{KeepFault}
use Rattle.desk_outside.specs.declared.keeper.KeepFault.TheVariants as keep_fault
use Rattle.desk_outside.specs.Faults.{Rose}
use Rattle.diagnosis.specs.declared.put.Put.{Put}
use Rattle.diagnosis.specs.declared.put.Put.TheVariants.{Same}
use Rattle.book.specs.declared.answers.PutFault.{PutFault}
use Rattle.book.specs.declared.answers.PutFault.TheVariants as put_fault
use Rattle.book.specs.Kinds.{appended}

-- what a keeper's fault is to a change
abbrev pub put_fault_of : KeepFault → PutFault
put_fault_of keep_fault.Failed = put_fault.Failed
put_fault_of keep_fault.NoMemory = put_fault.NoMemory

-- a design's text beside the one that its name has, under this number
abbrev pub beside : ℕ → List ℕ → List ℕ → Result Put PutFault
beside number kept text = if bytes_eq kept text then Ok (Same number) else Err (put_fault.NameTaken (sha256 kept))

-- what is told of a book while a deed goes to its keeper: the deeds, the keeper's rows, and its count of faults
pub record RecordFacts : Type 0 where
  pub deeds : List Deed
  pub rows : Option (List Deed)
  pub faults : ℕ

-- The deeds and the rows gain the deed exactly where it was recorded. The count of faults never falls, and rose where the
-- keeper failed.
pub record Recorded (deed : Deed) (result : Result (Unit {0}) KeepFault) (old new : RecordFacts) : Type 0 where
  pub deeds : new.deeds ≡ appended result old.deeds deed
  pub rows : new.rows ≡ option_map (λ rows. appended result rows deed) old.rows
  pub later : old.faults ≤ new.faults
  pub failed : IsErrOf result keep_fault.Failed → Rose old.faults new.faults
