use Rattle.std.proofs.Common.{rules, ◌≡◌, ◌<◌, ◌∷◌, length, sym, ap, subst, ◌∙◌}
use Rattle.shared_desk.specs.declared.turns.SeatView.{SeatView}
use Rattle.shared_desk.specs.Seats.{seat_facts}
use Rattle.shared_desk.specs.Turns.{AllNoted, IsLast}
use Rattle.shared_desk.specs.StartAndEnd.{IsFinished}
use Rattle.shared_desk.proofs.Calling.{sits_of}
use Rattle.shared_desk.proofs.Finishing.{first_removed, all_noted, finished}
use Rattle.shared_desk.proofs.desk.Desk.finish.Goals as goal

pub close_table-requires-clause-noted : goal.close_table-requires-clause-noted
close_table-requires-clause-noted g c =
    let some : 0 < length c.args.seats = search rules in
    let list : c.into_vec-others.result.items ≡ c.args.seats = c.into_vec-others.ensures in
    let parts : c.args.seats ≡ c.remove.result ∷ c.remove.new.self.items = sym list ∙ first_removed _ _ _ (subst (λ xs. 0 < length xs) (sym list) some) c.remove.ensures.value c.remove.ensures.items in
    let one = c.into_seat-first.ensures.2 in
    let place = c.badge.inside.badge.table_id in
    let is = sym c.badge.view_is ∙ ap (seat_facts place) one in
    let sits = sits_of c.badge.inside.number c.badge.inside.mark c.badge.inside.badge.views c.into_seat-first.result.me.0 c.badge.invariant one in
    all_noted c.args.self c.remove.result c.remove.new.self.items c.args.seats c.badge.inside.number place c.into_seat-first.result.me.0 c.join_others.new.first.me.0 parts c.requires is sits c.join_others.ensures.joined c.join_others.ensures.noted

pub returns : goal.returns
returns g c =
    let some : 0 < length c.args.seats = search rules in
    let list : c.into_vec-others.result.items ≡ c.args.seats = c.into_vec-others.ensures in
    let parts : c.args.seats ≡ c.remove.result ∷ c.remove.new.self.items = sym list ∙ first_removed _ _ _ (subst (λ xs. 0 < length xs) (sym list) some) c.remove.ensures.value c.remove.ensures.items in
    let one = c.into_seat-first.ensures.2 in
    let place = c.badge.inside.badge.table_id in
    let is = sym c.badge.view_is ∙ ap (seat_facts place) one in
    let sits = sits_of c.badge.inside.number c.badge.inside.mark c.badge.inside.badge.views c.into_seat-first.result.me.0 c.badge.invariant one in
    let done = finished c.args.self c.remove.result c.remove.new.self.items c.args.seats c.badge.inside.number place c.into_seat-first.result.me.0 c.join_others.new.first.me.0 parts c.requires is sits c.join_others.ensures.joined c.join_others.ensures.noted c.close_table.result c.close_table.ensures c.into_book.ensures.whole c.into_book.ensures.counted in
    subst (λ b. IsFinished c.args.self c.args.seats b) (sym c.into_book.ensures.book) done
