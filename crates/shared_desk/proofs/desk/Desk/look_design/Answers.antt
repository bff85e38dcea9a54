use Rattle.std.proofs.Common.{[], ◌∷◌, sym, ap, ◌∙◌}
use Rattle.shared_desk.proofs.Calling.{sits_looked}
use Rattle.shared_desk.proofs.desk.Desk.look_design.Goals as goal

pub invariant_of-seat : goal.invariant_of-seat
invariant_of-seat g c =
    let one = ap (λ b. b.views) (sym c.replace.ensures.value) ∙ c.into_seat-at.ensures.2 in
    let left = c.into_badge.ensures.2 ∙ ap (λ m. m.0 ∷ []) c.give_book.ensures.left in
    sits_looked c.seat.inside.number c.seat.inside.mark c.deeds-mark.result c.seat.inside.badge.views c.into_badge.result.views c.into_seat-at.result.me.0 c.take_book-book.new.seat.me c.take_book-book.result
    c.seat.invariant one c.take_book-book.ensures.turn c.take_book-book.ensures.took c.deeds-mark.ensures.book c.deeds-mark.ensures.number left
