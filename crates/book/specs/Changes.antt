-- What a call does to a book.
use Rattle.std.specs.Prelude.{◌≡◌, ◌≤◌, ℕ, true, List, [], ◌∷◌, ◌++◌, length, take, Option, Some, option_map, Result, Ok, Err, ⊤}
use Rattle.desk_outside.specs.declared.deed.Deed.{Deed}
use Rattle.desk_outside.specs.Faults.{Rose}
use Rattle.diagnosis.specs.declared.put.Put.{Put}
use Rattle.diagnosis.specs.declared.put.Put.TheVariants.{Created, Same}
use Rattle.book.specs.declared.answers.PutFault.{PutFault}
use Rattle.book.specs.declared.answers.PutFault.TheVariants.{NameTaken, UnknownDesign, DigestDiffers, Full, Failed, NoMemory}
use Rattle.book.specs.declared.answers.LookFault.{LookFault}
use Rattle.book.specs.declared.answers.LookFault.TheVariants as look_fault
use Rattle.diagnosis.specs.Designs.{ViewFacts, ReadLogFacts, StandsOver, texts_of}
use Rattle.book.specs.Deeds.{design_text, design_test, die_logs}
use Rattle.book.specs.LegalDeeds.{is_legal}

-- A book as contracts see it: its deeds and the most that it may have, the rows of its keeper where these are told, and
-- the keeper's count of faults.
pub record BookFacts : Type 0 where
  pub deeds : List Deed
  pub limit : ℕ
  pub rows : Option (List Deed)
  pub faults : ℕ

-- its deeds are legal, and the keeper's rows equal them
pub record IsBook (b : BookFacts) : Type 0 where
  pub legal : is_legal b.limit b.deeds ≡ true
  pub rows : b.rows ≡ option_map (λ rows. b.deeds) b.rows

-- the answer creates an entry
abbrev pub Creates : Result Put PutFault → Type 0
Creates (Ok (Created number)) = ⊤
Creates (Ok (Same number)) = ⊥
Creates (Err fault) = ⊥

-- A change was answered as it should be. Where an entry would be created the keeper may have failed instead, and then its
-- count rose; memory may have run out anywhere.
abbrev pub Answered : Result Put PutFault → Type 0 → Result Put PutFault → Type 0
Answered answer rose (Ok put) = answer ≡ Ok put
Answered answer rose (Err (NameTaken kept)) = answer ≡ Err (NameTaken kept)
Answered answer rose (Err UnknownDesign) = answer ≡ Err UnknownDesign
Answered answer rose (Err (DigestDiffers right)) = answer ≡ Err (DigestDiffers right)
Answered answer rose (Err (Full limit)) = answer ≡ Err (Full limit)
Answered answer rose (Err Failed) = Creates answer × rose
Answered answer rose (Err NoMemory) = ⊤

-- the deeds after an answer: one more where an entry was created, and else the same
abbrev pub after : Result Put PutFault → List Deed → Deed → List Deed
after (Ok (Created number)) deeds deed = deeds ++ deed ∷ []
after (Ok (Same number)) deeds deed = deeds
after (Err fault) deeds deed = deeds

-- a change with this answer and this deed
pub record Changed (answer : Result Put PutFault) (deed : Deed) (result : Result Put PutFault) (old new : BookFacts) : Type 0 where
  pub answered : Answered answer (Rose old.faults new.faults) result
  pub deeds : new.deeds ≡ after result old.deeds deed
  pub limit : new.limit ≡ old.limit
  pub rows : new.rows ≡ option_map (λ rows. new.deeds) old.rows
  pub faults : old.faults ≤ new.faults

-- the log's text stands for its facts, if these deeds have its design
abbrev pub StandsIn : List Deed → ReadLogFacts → Type 0
StandsIn deeds log = (t : _) → design_test deeds log.design ≡ Some t → StandsOver t log

-- the view is a die of these deeds at a revision
pub record IsViewIn (deeds : List Deed) (v : ViewFacts) : Type 0 where
  pub design : design_text deeds v.design.name ≡ Some v.design.text
  pub logs : texts_of v.logs ≡ take (length v.logs) (die_logs deeds v.design.name v.die)

-- a look was answered as it should be, by what is shown of its result; memory may have run out
abbrev pub Looked : {X Y : Type 0} → (X → Y) → Result Y LookFault → Result X LookFault → Type 0
Looked shown answer (Ok x) = answer ≡ Ok (shown x)
Looked shown answer (Err look_fault.UnknownDesign) = answer ≡ Err look_fault.UnknownDesign
Looked shown answer (Err look_fault.UnknownDie) = answer ≡ Err look_fault.UnknownDie
Looked shown answer (Err (look_fault.UnknownRevision have)) = answer ≡ Err (look_fault.UnknownRevision have)
Looked shown answer (Err (look_fault.UnknownSign have)) = answer ≡ Err (look_fault.UnknownSign have)
Looked shown answer (Err look_fault.NoMemory) = ⊤
