-- What a desk's start and its end promise.
use Rattle.std.specs.Prelude.{◌≡◌, ◌<◌, ◌≤◌, ℕ, true, List, [], length, sum_by, drop, All, slice_get, Option, Some, is_some}
use mathlib.Core.List.{IsPrefix}
use Rattle.desk_outside.specs.declared.deed.Deed.{Deed}
use Rattle.book.specs.Changes.{BookFacts, IsBook}
use Rattle.shared_desk.specs.Entries.{mine_of}
use Rattle.shared_desk.specs.OpenBooks.{AreCounted}
use Rattle.shared_desk.specs.Seats.{DeskFacts, SeatFacts, mine, failed}

-- ---- the start

-- a seat of the desk at the opening
abbrev pub fresh_seat : DeskFacts → List Deed → ℕ → SeatFacts
fresh_seat desk deeds number = record { desk = desk; number = number; seen = deeds; faults = [] }

-- these are all seats of the desk, each at the place of its number
pub record AreAllSeats (desk : DeskFacts) (list : List SeatFacts) : Type 0 where
  pub count : length list ≡ desk.seats
  pub of_desk : (i : ℕ) (seat : SeatFacts) → slice_get list i ≡ Some seat → seat.desk ≡ desk
  pub numbered : (i : ℕ) (seat : SeatFacts) → slice_get list i ≡ Some seat → seat.number ≡ i

-- A desk over the book of an opening, with all its seats as they are then. The book's deeds are the rows where these are told. `base` is
-- their number, and `opened` the count of the book's keeper, at the end of the opening.
pub record IsStarted (told : Option (List Deed)) (limit count faults : ℕ) (desk : DeskFacts) (list : List SeatFacts) : Type 0 where
  pub book : BookFacts
  pub is_book : IsBook book
  pub within : book.limit ≡ limit
  pub rows : book.rows ≡ told
  pub later : faults ≤ book.faults
  pub seats : desk.seats ≡ count
  pub limit_is : desk.limit ≡ book.limit
  pub base : desk.base ≡ length book.deeds
  pub opened : desk.opened ≡ book.faults
  pub tells : desk.tells ≡ is_some book.rows
  pub all : AreAllSeats desk list
  pub each : (i : ℕ) (seat : SeatFacts) → slice_get list i ≡ Some seat → seat ≡ fresh_seat desk book.deeds i

-- ---- the end

-- the seat has seen a prefix of the deeds, and all of its own
pub record HasOwn (deeds : List Deed) (seat : SeatFacts) : Type 0 where
  pub seen : IsPrefix seat.seen deeds
  pub own : mine_of seat.desk.base seat.number deeds ≡ mine seat

-- The book at the end. A keeper that told its rows at the opening tells that they are the deeds. Each deed since the opening is of one of the seats. The seats were answered `Failed` at most as
-- often as the keeper's count rose since, or that count stands at its last value.
pub record IsFinished (desk : DeskFacts) (list : List SeatFacts) (book : BookFacts) : Type 0 where
  pub limit : book.limit ≡ desk.limit
  pub rows : desk.tells ≡ true → book.rows ≡ Some book.deeds
  pub each : (i : ℕ) (seat : SeatFacts) → slice_get list i ≡ Some seat → HasOwn book.deeds seat
  pub by_seats : All (λ deed. deed.by < desk.seats) (drop desk.base book.deeds)
  pub counted : AreCounted desk.opened (sum_by failed list) book.faults
