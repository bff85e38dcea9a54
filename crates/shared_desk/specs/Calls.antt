-- What the calls of a desk do.
use Rattle.std.specs.Prelude.{◌≡◌, ◌+◌, ℕ, true, List, [], length, Result, ⊤}
use mathlib.Core.List.{IsPrefix}
use Rattle.desk_outside.specs.declared.deed.Deed.{Deed}
use Rattle.diagnosis.specs.declared.put.Put.{Put}
use Rattle.book.specs.declared.answers.PutFault.{PutFault}
use Rattle.book.specs.Changes.{Answered, after}
use Rattle.book.specs.LegalDeeds.{is_legal}
use Rattle.shared_desk.specs.OpenBooks.{faults_after}
use Rattle.shared_desk.specs.Seats.{SeatFacts, mine, failed}

-- the seat has seen more of one history, which is legal, and stays the same seat
pub record SawMore (old new : SeatFacts) : Type 0 where
  pub desk : new.desk ≡ old.desk
  pub number : new.number ≡ old.number
  pub seen : IsPrefix old.seen new.seen
  pub faults : IsPrefix old.faults new.faults
  pub legal : is_legal new.desk.limit new.seen ≡ true

-- A change, whose turn found a history and a list of faults. It was answered as the book answers over that history, or the
-- keeper failed where an entry would be created, or memory ran out. The history has one more deed exactly where an entry
-- was created, and the faults have one more exactly where the keeper failed; both are the seat's own.
pub record Changes (answer : List Deed → Result Put PutFault) (deed : Deed) (old new : SeatFacts) (mark : ℕ) (result : Result Put PutFault) : Type 0 where
  pub more : SawMore old new
  pub marked : mark ≡ length new.seen
  pub found : List Deed
  pub found_after : IsPrefix old.seen found
  pub answered : Answered (answer found) ⊤ result
  pub seen : new.seen ≡ after result found deed
  pub own : mine new ≡ after result (mine old) deed
  pub found_faults : List ℕ
  pub faults_after_old : IsPrefix old.faults found_faults
  pub faults : new.faults ≡ faults_after result found_faults old.number
  pub own_faults : failed new ≡ failed old + length (faults_after result [] old.number)

-- A look, which adds nothing of the seat's own.
pub record Looks (old new : SeatFacts) (mark : ℕ) : Type 0 where
  pub more : SawMore old new
  pub marked : mark ≡ length new.seen
  pub own : mine new ≡ mine old
  pub own_faults : failed new ≡ failed old
