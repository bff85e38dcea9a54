use Rattle.std.proofs.Common.{[], ◌∷◌, refl, sym, ap, ◌∙◌}
use Rattle.std.specs.Prelude.{length}
use Rattle.sha2.specs.Sha256.{sha256}
use Rattle.diagnosis.specs.Designs.{view_report}
use Rattle.book.specs.Answers.{sign_answer}
use Rattle.book.specs.Kinds.{sign_deed}
use Rattle.shared_desk.proofs.Calling.{changes_seat, sits_changed, view_at_turn}
use Rattle.shared_desk.proofs.desk.Desk.sign.Goals as goal

pub sign-answer-requires-clause-view : goal.sign-answer-requires-clause-view
sign-answer-requires-clause-view g c =
    let one = ap (λ b. b.views) (sym c.replace.ensures.value) ∙ c.into_seat-at.ensures.2 in
    view_at_turn _ c.seat.inside.badge.table_id _ _ _ c.take_book-book.result c.args.checked.now (sym c.seat.view_is) one c.take_book-book.ensures.took c.requires.view

pub returns : goal.returns
returns g c =
    let v = c.args.checked.now in
    let place = c.seat.inside.badge.table_id in
    let views = c.seat.inside.badge.views in
    let old = c.into_seat-at.result.me.0 in
    let turn = c.take_book-book.new.seat.me.0 in
    let same = c.into_badge.ensures.0 ∙ (c.give_book.ensures.same ∙ (c.take_book-book.ensures.same ∙ (c.into_seat-at.ensures.0 ∙ ap (λ b. b.table_id) c.replace.ensures.value))) in
    let one = ap (λ b. b.views) (sym c.replace.ensures.value) ∙ c.into_seat-at.ensures.2 in
    let left = c.into_badge.ensures.2 ∙ ap (λ m. m.0 ∷ []) c.give_book.ensures.left in
    changes_seat (λ limit deeds. sign_answer limit deeds v.design.name v.die (length v.logs) (sha256 (view_report v)) c.args.signer.now c.args.digest.now) (λ n. sign_deed n v.design.name v.die (record { revision = length v.logs; signer = c.args.signer.now; digest = c.args.digest.now })) (λ n. refl) _ _ _ _ place views old turn c.take_book-book.result c.sign-answer.new.self c.deeds-mark.result c.sign-answer.result c.into_badge.result.table_id c.into_badge.result.views
    (sym c.seat.view_is) c.requires.seat c.seat.invariant one c.take_book-book.ensures.took c.sign-answer.ensures.changed c.sign-answer.ensures.faults c.deeds-mark.ensures.number c.deeds-mark.ensures.book
    same left

pub invariant_of-seat : goal.invariant_of-seat
invariant_of-seat g c =
    let one = ap (λ b. b.views) (sym c.replace.ensures.value) ∙ c.into_seat-at.ensures.2 in
    let left = c.into_badge.ensures.2 ∙ ap (λ m. m.0 ∷ []) c.give_book.ensures.left in
    sits_changed _ _ _ c.seat.inside.number c.seat.inside.mark c.deeds-mark.result c.seat.inside.badge.views c.into_badge.result.views c.into_seat-at.result.me.0 c.take_book-book.new.seat.me c.take_book-book.result c.sign-answer.new.self
    c.seat.invariant one c.take_book-book.ensures.turn c.take_book-book.ensures.took c.sign-answer.ensures.changed c.deeds-mark.ensures.book c.deeds-mark.ensures.number left
