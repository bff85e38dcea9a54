-- The stages of a seat's turn.
use Rattle.std.specs.Prelude.{◌≡◌, ◌≤◌, ℕ, [], ◌∷◌, length, true, false, None, Some}
use mathlib.Core.List.{IsPrefix}
use Rattle.atomic_table.specs.Table.{Me}
use Rattle.atomic_table.specs.Seated.{TableId}
use Rattle.book.specs.LegalDeeds.{is_legal}
use Rattle.shared_desk.specs.declared.turns.SeatView.{SeatView}
use Rattle.shared_desk.specs.Entries.{mine_of, failed_of}
use Rattle.shared_desk.specs.OpenBooks.{OpenBookFacts}
use Rattle.shared_desk.specs.Turns.{Slot, HasLists}

-- the seat is one of the table, which has three words and a slot
pub record IsAt (place seat : TableId) : Type 0 where
  pub same : seat ≡ place
  pub words : place.words ≡ 3
  pub slots : place.slots ≡ 1

-- a view of a seat in use that waits for nothing
pub record IsResting (v : SeatView) : Type 0 where
  pub spent : v.spent ≡ false
  pub waits : v.waits ≡ false
  pub holds : v.holds ≡ false

pub record IsIdle (me : Me Slot SeatView) : Type 0 where
  pub view : IsResting me.0
  pub hand : me.1 ≡ []

-- it has drawn this ticket
pub record IsWaiting (ticket : ℕ) (me : Me Slot SeatView) : Type 0 where
  pub spent : me.0.spent ≡ false
  pub waits : me.0.waits ≡ true
  pub holds : me.0.holds ≡ false
  pub ticket_is : me.0.ticket ≡ ticket
  pub hand : me.1 ≡ []

-- what a view knows of its own stands in what it has seen
pub record KnowsOwn (v : SeatView) : Type 0 where
  pub mine : v.mine ≡ mine_of v.about.base v.number v.seen
  pub failed : v.failed ≡ failed_of v.number v.faults

-- it has the turn, and this lies in the slot
pub record HoldsSlot (me : Me Slot SeatView) (x : Slot) : Type 0 where
  pub own : KnowsOwn me.0
  pub spent : me.0.spent ≡ false
  pub waits : me.0.waits ≡ true
  pub holds : me.0.holds ≡ true
  pub hand : me.1 ≡ (0, x) ∷ []

-- it has the turn, and the open book is in use
abbrev pub HasTurn : Me Slot SeatView → Type 0
HasTurn me = HoldsSlot me None

-- it has the turn, and the open book lies in the slot
abbrev pub HoldsBook : Me Slot SeatView → OpenBookFacts → Type 0
HoldsBook me b = HoldsSlot me (Some b)

-- at its turn the seat has seen all, and no more entries of its own
pub record Took (old new : SeatView) (b : OpenBookFacts) : Type 0 where
  pub about : new.about ≡ old.about
  pub number : new.number ≡ old.number
  pub given : new.given ≡ old.given
  pub joined : new.joined ≡ old.joined
  pub seen : IsPrefix old.seen new.seen
  pub mine : mine_of old.about.base old.number new.seen ≡ mine_of old.about.base old.number old.seen
  pub faults : IsPrefix old.faults new.faults
  pub failed : failed_of old.number new.faults ≡ failed_of old.number old.faults
  pub legal : is_legal old.about.limit new.seen ≡ true
  pub base : old.about.base ≤ length new.seen
  pub lists : HasLists old.about new.seen new.faults b
