use Rattle.std.proofs.Common.{◌≡◌, length, map, ap, sym, subst, ◌∙◌, refl, inl, Some}
use Rattle.std.specs.Prelude.{All}
use Rattle.std.proofs.lemmas.List.{length-map}
use Rattle.desk_outside.specs.Faults.{Rose}
use Rattle.desk_outside.specs.Streets.{StreetTold}
use Rattle.shared_desk.specs.Seats.{SeatFacts}
use Rattle.shared_desk.specs.StartAndEnd.{AreAllSeats, IsFinished}
use Rattle.desk_serve.specs.Doors.{DoorFacts, Tells, with_doors_out, with_doors_home}
use Rattle.desk_serve.specs.StreetEnd.{StreetServed}
use Rattle.desk_serve.specs.Runs.{order_of}
use Rattle.desk_serve.proofs.Lists.{all_of_map}
use Rattle.desk_serve.proofs.ComingHome.{are_out, rose_still, rose_later}
use Rattle.desk_serve.proofs.Seats.{seats_of_desk, same_deeds}
use Rattle.desk_serve.proofs.Ends.{all_seats, all_tell, over}
use Rattle.desk_serve.proofs.sessions.serve_desk.Goals as goal

pub finish-book-requires : goal.finish-book-requires
finish-book-requires g c = c.requires.opened.all

pub returns-in_default-clause-over : goal.returns-in_default-clause-over
returns-in_default-clause-over g c =
    inl record { street = refl; same = same_deeds c.args.asked.now.workers c.args.desk c.args.seats c.finish-book.result c.requires.some c.requires.opened c.finish-book.ensures; unwritten = refl }

pub serve_street-over-requires-clause-all : goal.serve_street-over-requires-clause-all
serve_street-over-requires-clause-all g c κs within = ap length c.into_vec.ensures ∙ c.requires.opened.all.count ∙ c.requires.opened.count

pub serve_street-over-requires-clause-seats : goal.serve_street-over-requires-clause-seats
serve_street-over-requires-clause-seats g c κs within = subst (All (λ (s : SeatFacts). s.desk ≡ c.args.desk)) (sym c.into_vec.ensures) (seats_of_desk c.args.desk c.args.seats c.requires.opened.all)

pub finish-book-requires-2 : goal.finish-book-requires-2
finish-book-requires-2 g c =
    let served = c.serve_street-over.ensures.served in
    let opened = subst (AreAllSeats c.args.desk) (sym c.into_vec.ensures) c.requires.opened.all in
    subst (AreAllSeats c.args.desk) (sym c.from_vec.ensures) (all_seats _ _ _ _ _ _ _ _ _ _ _ opened served)

pub hand_back-requires-clause-out : goal.hand_back-requires-clause-out
hand_back-requires-clause-out g c κs within told is =
    (are_out c.args.asked.now.port (length c.serve_street-over.result.doors.items) (g.S.Street.told c.args.street.now) (g.S.Street.told c.serve_street-over.new.street) c.serve_street-over.ensures.silent c.serve_street-over.ensures.out told is).2

pub hand_back-requires-clause-telling : goal.hand_back-requires-clause-telling
hand_back-requires-clause-telling g c κs within told is =
    let facts : g.row.S-D.Denot → DoorFacts = λ x. record { told = g.S.D.Door.told x; faults = g.S.D.Door.faults x } in
    let before = are_out c.args.asked.now.port (length c.serve_street-over.result.doors.items) (g.S.Street.told c.args.street.now) (g.S.Street.told c.serve_street-over.new.street) c.serve_street-over.ensures.silent c.serve_street-over.ensures.out told is in
    all_of_map Tells facts c.serve_street-over.result.doors.items (all_tell _ _ _ _ _ _ _ _ _ _ _ c.serve_street-over.ensures.served (before.0, before.1))

pub returns-clause-over : goal.returns-clause-over
returns-clause-over g c =
    let facts : g.row.S-D.Denot → DoorFacts = λ x. record { told = g.S.D.Door.told x; faults = g.S.D.Door.faults x } in
    let asked = order_of c.args.asked.now in
    let desk = c.args.desk in
    let doors = c.serve_street-over.result.doors.items in
    let after = c.serve_street-over.result.seats.items in
    let book = c.finish-book-2.result in
    let street = g.S.Street.told c.args.street.now in
    let mid = g.S.Street.told c.serve_street-over.new.street in
    let new = g.S.Street.told c.hand_back.new.street in
    let tells = (told : StreetTold) × (street ≡ Some told) in
    let rose_before = Rose (g.S.Street.faults c.args.street.now) (g.S.Street.faults c.serve_street-over.new.street) in
    let rose = Rose (g.S.Street.faults c.args.street.now) (g.S.Street.faults c.hand_back.new.street) in
    let sink_rose = Rose (g.O.Sink.faults c.args.out.now) (g.O.Sink.faults c.serve_street-over.new.out) in
    let written = g.O.Sink.written c.args.out.now in
    let written_after = g.O.Sink.written c.serve_street-over.new.out in
    let instead = c.serve_street-over.result.instead in
    let served = subst (λ l. StreetServed asked tells rose_before sink_rose desk l written written_after after (map facts doors) instead) c.into_vec.ensures c.serve_street-over.ensures.served in
    let finished = subst (λ l. IsFinished desk l book) c.from_vec.ensures c.finish-book-2.ensures in
    over asked (c.hand_back.new.street ≡ c.args.street.now) tells rose_before rose sink_rose street new written written_after desk c.args.seats after (map facts doors) instead book c.requires.some c.requires.opened c.deeds-deeds-2.ensures.book (λ told is. (told, is)) served finished
    (λ told is. c.hand_back.ensures.home (with_doors_out told asked.port (length doors)) (c.serve_street-over.ensures.out told is) ∙ ap (λ n. Some (with_doors_home (with_doors_out told asked.port n) (map facts doors))) (sym (length-map doors facts)))
    (λ r. rose_still _ _ _ r c.hand_back.ensures.later)
    (λ any. rose_later _ _ _ c.serve_street-over.ensures.street_later (c.hand_back.ensures.failed any))
