use Rattle.std.proofs.Common.{◌≡◌, ◌++◌, List, [], ◌∷◌, Ok, IfOk, sym, ap, ◌∙◌, subst}
use Rattle.desk_outside.specs.declared.deed.Deed.{Deed}
use Rattle.book.specs.Deeds.{report_at}
use Rattle.book.specs.Answers.{sign_look}
use Rattle.shared_desk.proofs.Calling.{seen_after, sits_looked}
use Rattle.shared_desk.proofs.desk.Desk.look_sign.Goals as goal

pub returns-clause-stays : goal.returns-clause-stays
returns-clause-stays g c =
    let d = c.args.design.now in
    let x = c.args.die.now in
    let left = c.into_badge.ensures.2 ∙ ap (λ m. m.0 ∷ []) c.give_book.ensures.left in
    let same = seen_after c.into_badge.result.table_id c.into_badge.result.views c.take_book-book.new.seat.me.0 c.take_book-book.result c.book.result.now c.book.ensures left in
    subst (λ (deeds : List Deed). (more : List Deed) → IfOk c.look_sign-answer.result (λ sign. (sign_look (deeds ++ more) d x c.args.number ≡ Ok sign)
    × (report_at (deeds ++ more) d x sign.revision ≡ report_at deeds d x sign.revision))) same c.look_sign-answer.ensures.stays

pub invariant_of-seat : goal.invariant_of-seat
invariant_of-seat g c =
    let one = ap (λ b. b.views) (sym c.replace.ensures.value) ∙ c.into_seat-at.ensures.2 in
    let left = c.into_badge.ensures.2 ∙ ap (λ m. m.0 ∷ []) c.give_book.ensures.left in
    sits_looked c.seat.inside.number c.seat.inside.mark c.deeds-mark.result c.seat.inside.badge.views c.into_badge.result.views c.into_seat-at.result.me.0 c.take_book-book.new.seat.me c.take_book-book.result
    c.seat.invariant one c.take_book-book.ensures.turn c.take_book-book.ensures.took c.deeds-mark.ensures.book c.deeds-mark.ensures.number left
