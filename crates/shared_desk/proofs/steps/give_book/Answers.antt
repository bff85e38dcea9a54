use Rattle.std.proofs.Common.{◌≡◌, false, [], sym, ap, ◌∙◌, subst}
use Rattle.atomic_table.specs.Table.{Me}
use Rattle.shared_desk.specs.declared.turns.SeatView.{SeatView}
use Rattle.shared_desk.specs.Turns.{Slot, AddsOne, HasLists, at_turn, with_lists}
use Rattle.shared_desk.specs.Stages.{HoldsBook}
use Rattle.shared_desk.proofs.Carrying.{put_back, same_view, seen_same, counted_again, on_true, on_false}
use Rattle.shared_desk.proofs.steps.give_book.Goals as goal
use Rattle.shared_desk.proofs.steps.give_book.Goals.{then-counts, else-counts}

pub count_one-requires-clause-turn : goal.count_one-requires-clause-turn
count_one-requires-clause-turn g c =
    let is = c.exchange.ensures.3 in
    (c.args.book, put_back _ _ _ c.requires.turn is, subst (λ (v : SeatView). AddsOne v c.args.book) (sym (same_view _ _ _ is)) (on_true _ _ c.if-counts.true c.requires.counts))

pub leave_turn-requires-clause-turn : goal.leave_turn-requires-clause-turn
leave_turn-requires-clause-turn g c =
    let is = c.exchange.ensures.3 in
    let back = put_back _ _ _ c.requires.turn is in
    let Ready : Me Slot SeatView → Type 0 = λ (m : Me Slot SeatView). HoldsBook m c.args.book × HasLists m.0.about m.0.seen m.0.faults c.args.book in
    let ready : Ready c.if-counts.seat.me = elim c.if-counts.branch [
      | then-counts w ↦
          let adds = subst (λ (v : SeatView). AddsOne v c.args.book) (sym (same_view _ _ _ is)) (on_true _ _ w.if-counts.true c.requires.counts) in
          let again = counted_again _ _ _ back adds w.count_one.ensures.counted in
          subst (λ s. Ready s.me) (sym w.seat-is) (again.1, again.2)
      | else-counts w ↦
          let same = subst (λ (v : SeatView). HasLists v.about v.seen v.faults c.args.book) (sym (same_view _ _ _ is)) (on_false _ _ w.if-counts.false c.requires.same) in
          subst (λ s. Ready s.me) (sym w.seat-is) (back, same)
    ] in
    (c.args.book, ready.0, ready.1)

pub returns-clause-left : goal.returns-clause-left
returns-clause-left g c =
    let is = c.exchange.ensures.3 in
    let back = put_back _ _ _ c.requires.turn is in
    let v = c.args.seat.now.me.0 in
    let b = c.args.book in
    let same : c.exchange.new.seat.me.0 ≡ v = same_view _ _ _ is in
    let now : c.if-counts.seat.me.0 ≡ with_lists v b.book.deeds b.faults = elim c.if-counts.branch [
      | then-counts w ↦
          let adds = subst (λ (v : SeatView). AddsOne v c.args.book) (sym same) (on_true _ _ w.if-counts.true c.requires.counts) in
          let again = counted_again _ _ _ back adds w.count_one.ensures.counted in
          ap (λ s. s.me.0) w.seat-is ∙ (ap (λ (m : Me Slot SeatView). m.0) again.0 ∙ ap (λ (u : SeatView). with_lists u b.book.deeds b.faults) same)
      | else-counts w ↦ ap (λ s. s.me.0) w.seat-is ∙ (same ∙ sym (seen_same v b c.requires.turn.own (on_false _ _ w.if-counts.false c.requires.same)))
    ] in
    c.leave_turn.ensures.left ∙ ap (λ (u : SeatView). (at_turn u false 0 false, [])) now
