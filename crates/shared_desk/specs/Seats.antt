-- A desk and its seats, as contracts see them.
use Rattle.std.specs.Prelude.{◌≡◌, ◌≤◌, ℕ, Bool, true, false, List, [], ◌∷◌, length}
use Rattle.atomic_table.specs.Seated.{TableId}
use Rattle.desk_outside.specs.declared.deed.Deed.{Deed}
use Rattle.book.specs.LegalDeeds.{is_legal}
use Rattle.shared_desk.specs.declared.turns.DeskTerms.{DeskTerms}
use Rattle.shared_desk.specs.declared.turns.JoinedSeat.{JoinedSeat}
use Rattle.shared_desk.specs.declared.turns.SeatView.{SeatView}
use Rattle.shared_desk.specs.Entries.{mine_of, failed_of}
use Rattle.shared_desk.specs.Stages.{IsResting, KnowsOwn}

-- Which desk it is, how many seats it has, the most deeds that its book may have, how many it had at the opening, the
-- keeper's count at the end of the opening, and whether the keeper tells its rows.
pub record DeskFacts : Type 0 where
  pub place : TableId
  pub seats : ℕ
  pub limit : ℕ
  pub base : ℕ
  pub opened : ℕ
  pub tells : Bool

-- A seat of a desk: its number, and the deeds and the faults that it has seen.
pub record SeatFacts : Type 0 where
  pub desk : DeskFacts
  pub number : ℕ
  pub seen : List Deed
  pub faults : List ℕ

-- the deeds since the opening that carry its number
abbrev pub mine : SeatFacts → List Deed
mine s = mine_of s.desk.base s.number s.seen

-- how often it was answered `Failed`
abbrev pub failed : SeatFacts → ℕ
failed s = failed_of s.number s.faults

abbrev pub desk_facts : TableId → DeskTerms → DeskFacts
desk_facts place about = record { place = place; seats = about.seats; limit = about.limit; base = about.base; opened = about.opened; tells = about.tells }

abbrev pub no_seat : TableId → SeatFacts
no_seat place = record { desk = record { place = place; seats = 0; limit = 0; base = 0; opened = 0; tells = false }; number = 0; seen = []; faults = [] }

-- the seat of a view
abbrev pub seat_of : TableId → SeatView → SeatFacts
seat_of place v = record { desk = desk_facts place v.about; number = v.number; seen = v.seen; faults = v.faults }

abbrev pub seat_facts : TableId → List SeatView → SeatFacts
seat_facts place [] = no_seat place
seat_facts place (v ∷ vs) = seat_of place v

-- what is noted of a seat that is joined
abbrev pub seat_note : SeatFacts → JoinedSeat
seat_note s = record { number = s.number; seen = s.seen; faults = s.faults }

-- a seat that rests, of a desk that is whole
pub record IsSeatView (n : ℕ) (v : SeatView) : Type 0 where
  pub resting : IsResting v
  pub own : KnowsOwn v
  pub base : v.about.base ≤ length v.seen
  pub legal : is_legal v.about.limit v.seen ≡ true
  pub number : v.number ≡ n
  pub given : v.number ≡ 0 → v.given ≡ v.about.seats
  pub joined : v.joined ≡ []

-- it keeps its number and how many deeds it has seen
abbrev pub IsDeskSeat : ℕ → ℕ → List SeatView → Type 0
IsDeskSeat n mark views = (v : SeatView) × (views ≡ v ∷ []) × IsSeatView n v × (mark ≡ length v.seen)

-- a view at the opening, which had so many deeds
pub record IsOpening (mark : ℕ) (v : SeatView) : Type 0 where
  pub deeds : mark ≡ length v.seen
  pub base : v.about.base ≡ length v.seen
  pub legal : is_legal v.about.limit v.seen ≡ true
