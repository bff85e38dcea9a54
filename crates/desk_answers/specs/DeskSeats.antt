-- A seat of a shared desk as a seat that sessions ask.
use Rattle.std.specs.Prelude.{◌≡◌}
use Rattle.shared_desk.specs.Seats.{DeskFacts, SeatFacts as DeskSeatFacts}
use Rattle.desk_answers.specs.Seats.{SeatFacts}

-- what a session sees of it
abbrev pub of_desk : DeskSeatFacts → SeatFacts
of_desk s = record { seen = s.seen; limit = s.desk.limit; number = s.number; faults = s.faults }

-- it is a seat of the desk
abbrev pub IsSeatOf : DeskSeatFacts → DeskFacts → Type 0
IsSeatOf seat desk = seat.desk ≡ desk
