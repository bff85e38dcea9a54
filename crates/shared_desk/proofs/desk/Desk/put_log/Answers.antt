use Rattle.std.proofs.Common.{[], ◌∷◌, refl, sym, ap, ◌∙◌}
use Rattle.std.specs.Arc.{arc_value}
use Rattle.book.specs.Answers.{log_answer}
use Rattle.book.specs.Kinds.{log_deed}
use Rattle.shared_desk.proofs.Calling.{changes_seat, sits_changed, stands_at_turn}
use Rattle.shared_desk.proofs.desk.Desk.put_log.Goals as goal

pub put_log-answer-requires-clause-stands : goal.put_log-answer-requires-clause-stands
put_log-answer-requires-clause-stands g c =
    let one = ap (λ b. b.views) (sym c.replace.ensures.value) ∙ c.into_seat-at.ensures.2 in
    stands_at_turn _ c.seat.inside.badge.table_id _ _ _ c.take_book-book.result (arc_value c.args.log.now) (sym c.seat.view_is) one c.take_book-book.ensures.took c.requires.design c.requires.stands

pub returns : goal.returns
returns g c =
    let log = arc_value c.args.log.now in
    let place = c.seat.inside.badge.table_id in
    let views = c.seat.inside.badge.views in
    let old = c.into_seat-at.result.me.0 in
    let turn = c.take_book-book.new.seat.me.0 in
    let same = c.into_badge.ensures.0 ∙ (c.give_book.ensures.same ∙ (c.take_book-book.ensures.same ∙ (c.into_seat-at.ensures.0 ∙ ap (λ b. b.table_id) c.replace.ensures.value))) in
    let one = ap (λ b. b.views) (sym c.replace.ensures.value) ∙ c.into_seat-at.ensures.2 in
    let left = c.into_badge.ensures.2 ∙ ap (λ m. m.0 ∷ []) c.give_book.ensures.left in
    changes_seat (λ limit deeds. log_answer limit deeds log.design log.die log.text) (λ n. log_deed n log) (λ n. refl) _ _ _ _ place views old turn c.take_book-book.result c.put_log-answer.new.self c.deeds-mark.result c.put_log-answer.result c.into_badge.result.table_id c.into_badge.result.views
    (sym c.seat.view_is) c.requires.seat c.seat.invariant one c.take_book-book.ensures.took c.put_log-answer.ensures.changed c.put_log-answer.ensures.faults c.deeds-mark.ensures.number c.deeds-mark.ensures.book
    same left

pub invariant_of-seat : goal.invariant_of-seat
invariant_of-seat g c =
    let one = ap (λ b. b.views) (sym c.replace.ensures.value) ∙ c.into_seat-at.ensures.2 in
    let left = c.into_badge.ensures.2 ∙ ap (λ m. m.0 ∷ []) c.give_book.ensures.left in
    sits_changed _ _ _ c.seat.inside.number c.seat.inside.mark c.deeds-mark.result c.seat.inside.badge.views c.into_badge.result.views c.into_seat-at.result.me.0 c.take_book-book.new.seat.me c.take_book-book.result c.put_log-answer.new.self
    c.seat.invariant one c.take_book-book.ensures.turn c.take_book-book.ensures.took c.put_log-answer.ensures.changed c.deeds-mark.ensures.book c.deeds-mark.ensures.number left
