-- Doors that came home, each served by the seat of its place.
use Rattle.std.specs.Prelude.{◌≡◌, ◌+◌, ◌==◌, ℕ, List, [], ◌∷◌, ◌++◌, length, drop, filter, flat_map, count_by}
use Rattle.desk_outside.specs.declared.deed.Deed.{Deed}
use Rattle.desk_outside.specs.declared.door.LinkHome.{LinkHome}
use Rattle.desk_outside.specs.declared.street.DoorHome.{DoorHome}
use Rattle.desk_answers.specs.Seats.{IsPrefix, SeatFacts}
use Rattle.desk_http.specs.Sessions.{own_deeds, turn_deeds, turn_failures}
use Rattle.desk_http.specs.ServedConnections.{AreServed}

-- the deeds of the final replies that made one, in order, over the connections of a door
abbrev pub replied_deeds : (old : SeatFacts) (given : List (List ℕ)) (done : List LinkHome) (unserved : ℕ) (new : SeatFacts) → AreServed old given done unserved new → List Deed
replied_deeds old [] [] unserved new are = []
replied_deeds old (left ∷ lefts) (home ∷ homes) unserved new (mid, end, others, served, count, rest) =
    (flat_map (own_deeds old.number) served.session.exchanges ++ turn_deeds old.number served.session.last) ++ replied_deeds mid lefts homes others new rest
replied_deeds old [] (home ∷ homes) unserved new are = []
replied_deeds old (left ∷ lefts) [] unserved new are = []

-- how many of the final replies say that the keeper failed
abbrev pub replied_faults : (old : SeatFacts) (given : List (List ℕ)) (done : List LinkHome) (unserved : ℕ) (new : SeatFacts) → AreServed old given done unserved new → ℕ
replied_faults old [] [] unserved new are = 0
replied_faults old (left ∷ lefts) (home ∷ homes) unserved new (mid, end, others, served, count, rest) =
    (count_by (λ e. e.failed) served.session.exchanges + turn_failures served.session.last) + replied_faults mid lefts homes others new rest
replied_faults old [] (home ∷ homes) unserved new are = 0
replied_faults old (left ∷ lefts) [] unserved new are = 0

-- The connections of a door were served, one after another, by a seat of this number. What the seat has seen is these deeds at first, and
-- leads the deeds at the end at last. The deeds at the end that carry its number are exactly those of its replies, in order. So many of
-- its replies say that the keeper failed, and so many of its sessions had no memory to begin with.
pub record IsServedBy (limit number : ℕ) (before after : List Deed) (home : DoorHome) (faults unserved : ℕ) : Type 0 where
  pub old : SeatFacts
  pub new : SeatFacts
  pub limited : old.limit ≡ limit
  pub numbered : old.number ≡ number
  pub first : old.seen ≡ before
  pub last : IsPrefix new.seen after
  pub are : AreServed old home.given home.done unserved new
  pub deeds : filter (λ deed. deed.by == number) (drop (length before) after) ≡ replied_deeds old home.given home.done unserved new are
  pub faults_are : faults ≡ replied_faults old home.given home.done unserved new are

-- so was each of these doors, by the seats of the numbers from this one on
abbrev pub AreServedBy : ℕ → ℕ → List Deed → List Deed → List DoorHome → ℕ → ℕ → Type 0
AreServedBy limit number before after [] faults unserved = (faults ≡ 0) × (unserved ≡ 0)
AreServedBy limit number before after (home ∷ homes) faults unserved =
    (first : ℕ) × (others : ℕ) × (none : ℕ) × (others_none : ℕ) × IsServedBy limit number before after home first none × (faults ≡ first + others) × (unserved ≡ none + others_none)
    × AreServedBy limit (number + 1) before after homes others others_none
