-- A book that is open on a desk, as contracts see it.
use Rattle.std.specs.Prelude.{ℕ, ◌+◌, ◌-◌, ◌^◌, ◌≤◌, min, List, [], ◌∷◌, ◌++◌, Bool, true, false, Result, Ok, Err}
use Rattle.book.specs.Changes.{BookFacts}
use Rattle.diagnosis.specs.declared.put.Put.{Put}
use Rattle.diagnosis.specs.declared.put.Put.TheVariants.{Created, Same}
use Rattle.book.specs.declared.answers.PutFault.{PutFault}
use Rattle.book.specs.declared.answers.PutFault.TheVariants.{NameTaken, UnknownDesign, DigestDiffers, Full, Failed, NoMemory}

-- the book, the numbers of the seats that were answered `Failed`, in order, and the keeper's count at the end of the opening
pub record OpenBookFacts : Type 0 where
  pub book : BookFacts
  pub faults : List ℕ
  pub opened : ℕ

-- there are at most as many faults as the keeper's count rose, or that count stands at its last value
abbrev pub AreCounted : ℕ → ℕ → ℕ → Type 0
AreCounted opened faults count = min (opened + faults) (2 ^ 64 - 1) ≤ count

-- the faults after an answer: one more where the keeper failed
abbrev pub faults_after : Result Put PutFault → List ℕ → ℕ → List ℕ
faults_after (Ok put) faults by = faults
faults_after (Err (NameTaken kept)) faults by = faults
faults_after (Err UnknownDesign) faults by = faults
faults_after (Err (DigestDiffers right)) faults by = faults
faults_after (Err (Full limit)) faults by = faults
faults_after (Err Failed) faults by = faults ++ by ∷ []
faults_after (Err NoMemory) faults by = faults

-- whether an answer adds a deed or a fault
abbrev pub is_counted : Result Put PutFault → Bool
is_counted (Ok (Created number)) = true
is_counted (Ok (Same number)) = false
is_counted (Err (NameTaken kept)) = false
is_counted (Err UnknownDesign) = false
is_counted (Err (DigestDiffers right)) = false
is_counted (Err (Full limit)) = false
is_counted (Err Failed) = true
is_counted (Err NoMemory) = false
