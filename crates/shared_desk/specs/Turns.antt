-- The rule of a desk's table.
-- Word 0 is the number of deeds and faults, word 1 the next ticket, word 2 the ticket that is served.
-- The slot holds the open book, and is out with the seat that has the turn.
use Rattle.std.specs.Prelude.{◌≡◌, ◌≢◌, ◌⊎◌, ◌≤◌, ◌<◌, ◌==◌, ◌+◌, ◌%◌, ◌^◌, ℕ, List, [], ◌∷◌, ◌++◌, length, drop, map, if◌then◌else◌, Bool, true, false, All, AllPairs, Contains, Option, Some, None, is_some, slice_get}
use Rattle.std.specs.Bool.{MatchBool}
use mathlib.Core.Option as found
use mathlib.Core.List.{IsPrefix}
use lib.ListN.{get_elem?}
use Rattle.atomic_table.specs.Table.{State, Me, rest}
use Rattle.desk_outside.specs.declared.deed.Deed.{Deed}
use Rattle.book.specs.LegalDeeds.{is_legal}
use Rattle.shared_desk.specs.declared.turns.DeskTerms.{DeskTerms}
use Rattle.shared_desk.specs.declared.turns.JoinedSeat.{JoinedSeat}
use Rattle.shared_desk.specs.declared.turns.SeatView.{SeatView}
use Rattle.shared_desk.specs.Entries.{mine_of, failed_of}
use Rattle.shared_desk.specs.OpenBooks.{OpenBookFacts}

-- what the slot holds: the open book, or nothing while it is in use
abbrev pub Slot : Type 0
Slot = Option OpenBookFacts

-- ---- the rule

-- the open book has these deeds and these faults
pub record HasLists (about : DeskTerms) (history : List Deed) (failures : List ℕ) (b : OpenBookFacts) : Type 0 where
  pub deeds : b.book.deeds ≡ history
  pub faults : b.faults ≡ failures
  pub opened : b.opened ≡ about.opened
  pub limit : b.book.limit ≡ about.limit
  pub tells : is_some b.book.rows ≡ about.tells

-- a history and a list of faults of so many seats
pub record IsHistory (about : DeskTerms) (seats : ℕ) (history : List Deed) (faults : List ℕ) : Type 0 where
  pub legal : is_legal about.limit history ≡ true
  pub base : about.base ≤ length history
  pub by_seats : All (λ deed. deed.by < seats) (drop about.base history)
  pub of_seats : All (λ k. k < seats) faults

-- what a seat has seen of both: what stands first, and all its own entries
pub record HasSeen (base : ℕ) (history : List Deed) (failures : List ℕ) (number : ℕ) (seen_deeds : List Deed) (seen_failures : List ℕ) : Type 0 where
  pub seen : IsPrefix seen_deeds history
  pub mine : mine_of base number seen_deeds ≡ mine_of base number history
  pub faults : IsPrefix seen_failures failures
  pub failed : failed_of number seen_failures ≡ failed_of number failures

-- a seat that was joined, or one that is in use
pub record IsSpent (v : SeatView) : Type 0 where
  pub spent : v.spent ≡ true
  pub waits : v.waits ≡ false
  pub holds : v.holds ≡ false

pub record IsSeat (desk : DeskTerms) (history : List Deed) (faults : List ℕ) (i : ℕ) (v : SeatView) : Type 0 where
  pub spent : v.spent ≡ false
  pub about : v.about ≡ desk
  pub number : v.number ≡ i
  pub seen : HasSeen desk.base history faults v.number v.seen v.faults
  pub mine : v.mine ≡ mine_of desk.base v.number history
  pub failed : v.failed ≡ failed_of v.number faults

-- what was noted when a seat was joined
pub record IsNoted (base : ℕ) (history : List Deed) (faults : List ℕ) (views : List SeatView) (note : JoinedSeat) : Type 0 where
  pub seen : HasSeen base history faults note.number note.seen note.faults
  pub view : SeatView
  pub is_it : get_elem? views note.number ≡ found.some view
  pub spent : view.spent ≡ true

-- the numbers of the seats in use and of those that were noted
abbrev pub numbers_of : List SeatView → List JoinedSeat → List ℕ
numbers_of [] notes = map (λ note. note.number) notes
numbers_of (v ∷ vs) notes = if v.spent then numbers_of vs notes else v.number ∷ numbers_of vs notes

-- The first seat knows how many numbers were given out, and which seats were joined. All numbers differ and were given out.
pub record IsFirst (about : DeskTerms) (history : List Deed) (faults : List ℕ) (views : List SeatView) (v : SeatView) : Type 0 where
  pub spent : v.spent ≡ false
  pub given : v.given ≡ length views
  pub joined : All (IsNoted about.base history faults views) v.joined
  pub differ : AllPairs (λ m n. m ≢ n) (numbers_of views v.joined)
  pub given_out : All (λ n. n < v.given) (numbers_of views v.joined)

-- the seats, each at the place of its number
pub record AreSeats (about : DeskTerms) (history : List Deed) (faults : List ℕ) (views : List SeatView) : Type 0 where
  pub few : length views ≤ 64
  pub each : (i : ℕ) (v : SeatView) → get_elem? views i ≡ found.some v → IsSpent v ⊎ IsSeat about history faults i v
  pub first : (v : SeatView) → get_elem? views 0 ≡ found.some v → IsFirst about history faults views v

abbrev pub flag : Bool → ℕ
flag true = 1
flag false = 0

-- how many seats have a ticket
abbrev pub waiting : List SeatView → ℕ
waiting [] = 0
waiting (v ∷ vs) = flag v.waits + waiting vs

-- the seats with a ticket, in the order of their tickets, where so many turns were given up
pub record InOrder (views : List SeatView) (queue : List ℕ) (served : ℕ) : Type 0 where
  pub counted : waiting views ≡ length queue
  pub at : (k i : ℕ) → slice_get queue k ≡ Some i → (v : SeatView) × (get_elem? views i ≡ found.some v) × (v.waits ≡ true) × (v.ticket ≡ (served + k) % 2 ^ 64)
  pub in_it : (i : ℕ) (v : SeatView) → get_elem? views i ≡ found.some v → v.waits ≡ true → (k : ℕ) × (slice_get queue k ≡ Some i)

-- the open book is home, and nobody has the turn
pub record IsHome (about : DeskTerms) (history : List Deed) (faults : List ℕ) (slots : List (found.Option Slot)) (views : List SeatView) : Type 0 where
  pub value : OpenBookFacts
  pub homes : slots ≡ found.some (Some value) ∷ []
  pub lists : HasLists about history faults value
  pub nobody : (i : ℕ) (v : SeatView) → get_elem? views i ≡ found.some v → v.holds ≡ false

-- it is out with the first in the queue, who has seen all
pub record IsOut (history : List Deed) (failures : List ℕ) (slots : List (found.Option Slot)) (views : List SeatView) (queue : List ℕ) : Type 0 where
  pub homes : slots ≡ found.none ∷ []
  pub by : ℕ
  pub first : slice_get queue 0 ≡ Some by
  pub holder : SeatView
  pub is_it : get_elem? views by ≡ found.some holder
  pub holds : holder.holds ≡ true
  pub seen : holder.seen ≡ history
  pub faults : holder.faults ≡ failures
  pub only : (i : ℕ) (v : SeatView) → get_elem? views i ≡ found.some v → v.holds ≡ true → i ≡ by

abbrev pub words_of : List Deed → List ℕ → List ℕ → ℕ → List ℕ
words_of history faults queue served =
    (length history + length faults) % 2 ^ 64 ∷ (served + length queue) % 2 ^ 64 ∷ served % 2 ^ 64 ∷ []

pub record IsDeskTable (about : DeskTerms) (s : State Slot SeatView) : Type 0 where
  pub history : List Deed
  pub faults : List ℕ
  pub queue : List ℕ
  pub served : ℕ
  pub words : s.words ≡ words_of history faults queue served
  pub lists : IsHistory about (length s.views) history faults
  pub seats : AreSeats about history faults s.views
  pub order : InOrder s.views queue served
  pub turn : IsHome about history faults s.homes s.views ⊎ IsOut history faults s.homes s.views queue

-- what all seats of a book have in common, from its opening
abbrev pub terms_of : ℕ → OpenBookFacts → DeskTerms
terms_of seats b = record { seats = seats; limit = b.book.limit; base = length b.book.deeds; opened = b.opened; tells = is_some b.book.rows }

-- ---- views

-- the view with another stage of its turn
abbrev pub at_turn : SeatView → Bool → ℕ → Bool → SeatView
at_turn v waits ticket holds = record {
  about = v.about;
  number = v.number;
  seen = v.seen;
  faults = v.faults;
  mine = v.mine;
  failed = v.failed;
  waits = waits;
  ticket = ticket;
  holds = holds;
  spent = v.spent;
  given = v.given;
  joined = v.joined;
}

-- the view that has seen these lists, and knows its own entries in them
abbrev pub with_lists : SeatView → List Deed → List ℕ → SeatView
with_lists v seen faults = record {
  about = v.about;
  number = v.number;
  seen = seen;
  faults = faults;
  mine = mine_of v.about.base v.number seen;
  failed = failed_of v.number faults;
  waits = v.waits;
  ticket = v.ticket;
  holds = v.holds;
  spent = v.spent;
  given = v.given;
  joined = v.joined;
}

-- the view of a seat at the opening, with that many numbers given out by it
abbrev pub fresh_view : DeskTerms → List Deed → ℕ → ℕ → SeatView
fresh_view about deeds number given = record {
  about = about;
  number = number;
  seen = deeds;
  faults = [];
  mine = mine_of about.base number deeds;
  failed = 0;
  waits = false;
  ticket = 0;
  holds = false;
  spent = false;
  given = given;
  joined = [];
}

-- the view of the first seat
abbrev pub first_view : DeskTerms → List Deed → SeatView
first_view about deeds = fresh_view about deeds 0 1

-- one more number was given out
abbrev pub with_given : SeatView → SeatView
with_given v = record {
  about = v.about;
  number = v.number;
  seen = v.seen;
  faults = v.faults;
  mine = v.mine;
  failed = v.failed;
  waits = v.waits;
  ticket = v.ticket;
  holds = v.holds;
  spent = v.spent;
  given = v.given + 1;
  joined = v.joined;
}

-- the seat that has that number
abbrev pub next_view : SeatView → SeatView
next_view v = record {
  about = v.about;
  number = v.given;
  seen = v.seen;
  faults = v.faults;
  mine = mine_of v.about.base v.given v.seen;
  failed = failed_of v.given v.faults;
  waits = false;
  ticket = 0;
  holds = false;
  spent = false;
  given = 0;
  joined = [];
}

abbrev pub note_of : SeatView → JoinedSeat
note_of v = record { number = v.number; seen = v.seen; faults = v.faults }

-- of two beginnings of one list the longer: the first, and what the second has beyond it
abbrev pub longer : {X : Type 0} → List X → List X → List X
longer xs ys = xs ++ drop (length xs) ys

-- What another seat has seen is seen too, and is noted. What the view knows of its own stays.
abbrev pub with_note : SeatView → SeatView → SeatView
with_note v w = record {
  about = v.about;
  number = v.number;
  seen = longer v.seen w.seen;
  faults = longer v.faults w.faults;
  mine = v.mine;
  failed = v.failed;
  waits = v.waits;
  ticket = v.ticket;
  holds = v.holds;
  spent = v.spent;
  given = v.given;
  joined = v.joined ++ note_of w ∷ [];
}

-- the view of a seat that was joined
abbrev pub spent_view : SeatView
spent_view = record {
  about = record { seats = 0; limit = 0; base = 0; opened = 0; tells = false };
  number = 0;
  seen = [];
  faults = [];
  mine = [];
  failed = 0;
  waits = false;
  ticket = 0;
  holds = false;
  spent = true;
  given = 0;
  joined = [];
}

-- ---- what the steps tell

-- a ticket was drawn
abbrev pub Draws : Me Slot SeatView → ℕ → Me Slot SeatView → Type 0
Draws v n w = w ≡ (at_turn v.0 true n false, v.1)

-- the turn is the seat's: it has seen all, and the open book is in its hand
pub record TakesTurn (v w : Me Slot SeatView) : Type 0 where
  pub view : w.0 ≡ at_turn (with_lists v.0 w.0.seen w.0.faults) true v.0.ticket true
  pub seen : IsPrefix v.0.seen w.0.seen
  pub mine : mine_of v.0.about.base v.0.number w.0.seen ≡ mine_of v.0.about.base v.0.number v.0.seen
  pub faults : IsPrefix v.0.faults w.0.faults
  pub failed : failed_of v.0.number w.0.faults ≡ failed_of v.0.number v.0.faults
  pub legal : is_legal v.0.about.limit w.0.seen ≡ true
  pub base : v.0.about.base ≤ length w.0.seen
  pub value : OpenBookFacts
  pub hand : w.1 ≡ (0, Some value) ∷ v.1
  pub lists : HasLists v.0.about w.0.seen w.0.faults value

-- the ticket is served, or not yet
abbrev pub Asks : Me Slot SeatView → ℕ → Me Slot SeatView → Type 0
Asks v n w = MatchBool (n == v.0.ticket) (TakesTurn v w) (w ≡ v)

-- the view that has seen the lists of the book in hand
abbrev pub caught_up : SeatView → List (ℕ × Slot) → SeatView
caught_up v [] = v
caught_up v ((k, None) ∷ more) = v
caught_up v ((k, Some b) ∷ more) = with_lists v b.book.deeds b.faults

-- the deed or the fault of the book in hand counts
abbrev pub Counts : Me Slot SeatView → ℕ → Me Slot SeatView → Type 0
Counts v n w = w ≡ (caught_up v.0 v.1, v.1)

-- the turn and the book are given up
abbrev pub Leaves : Me Slot SeatView → ℕ → Me Slot SeatView → Type 0
Leaves v n w = w ≡ (at_turn v.0 false 0 false, rest v.1)

-- ---- what the steps ask

-- a book whose lists are these with one more deed or one more fault of the seat
pub record AddsDeed (v : SeatView) (b : OpenBookFacts) : Type 0 where
  pub deed : Deed
  pub by : deed.by ≡ v.number
  pub lists : HasLists v.about (v.seen ++ deed ∷ []) v.faults b
  pub legal : is_legal v.about.limit (v.seen ++ deed ∷ []) ≡ true

abbrev pub AddsOne : SeatView → OpenBookFacts → Type 0
AddsOne v b = AddsDeed v b ⊎ HasLists v.about v.seen (v.faults ++ v.number ∷ []) b

-- ---- the end

-- the open book at the end has these lists, of which the first seat and those that it noted have seen their parts
pub record IsLast (v : SeatView) (b : OpenBookFacts) : Type 0 where
  pub opened : b.opened ≡ v.about.opened
  pub limit : b.book.limit ≡ v.about.limit
  pub tells : is_some b.book.rows ≡ v.about.tells
  pub own : HasSeen v.about.base b.book.deeds b.faults 0 v.seen v.faults
  pub mine : v.mine ≡ mine_of v.about.base 0 b.book.deeds
  pub failed : v.failed ≡ failed_of 0 b.faults
  pub noted : All (λ note. HasSeen v.about.base b.book.deeds b.faults note.number note.seen note.faults) v.joined
  pub by_seats : All (λ deed. deed.by < v.given) (drop v.about.base b.book.deeds)
  pub of_seats : All (λ k. k < v.given) b.faults

-- a view that others were joined into: it has seen more, and what it knows of its own stays
pub record IsJoined (old new : SeatView) : Type 0 where
  pub about : new.about ≡ old.about
  pub number : new.number ≡ old.number
  pub seen : IsPrefix old.seen new.seen
  pub faults : IsPrefix old.faults new.faults
  pub mine : new.mine ≡ old.mine
  pub failed : new.failed ≡ old.failed
  pub given : new.given ≡ old.given

-- each number but the first that was given out is noted
abbrev pub AllNoted : SeatView → Type 0
AllNoted v = (i : ℕ) → 0 < i → i < v.given → (note : JoinedSeat) × Contains v.joined note × (note.number ≡ i)
