-- A ticket is drawn.
use Rattle.std.proofs.Common.{◌≡◌, ◌+◌, ◌%◌, ◌^◌, ℕ, [], ◌∷◌, ◌++◌, length, true, false, refl, sym, ap, ◌∙◌, subst, arith, length-append}
use Rattle.std.specs.Prelude.{slice_index, slice_set}
use Rattle.std.proofs.Math.Nat.{mod-add-mod}
use Rattle.atomic_table.specs.Table.{Me, keeps, Allows}
use Rattle.shared_desk.specs.declared.turns.DeskTerms.{DeskTerms}
use Rattle.shared_desk.specs.declared.turns.SeatView.{SeatView}
use Rattle.shared_desk.specs.Turns.{Slot, IsDeskTable, IsSeat, words_of, at_turn, Draws}
use Rattle.shared_desk.proofs.Lists.{get_snoc_old}
use Rattle.shared_desk.proofs.Orders.{order_draw}
use Rattle.shared_desk.proofs.SeatLists.{in_use, seats_set, lists_set, grows_same}
use Rattle.shared_desk.proofs.Turning.{Goes, turn_set}

pub draws_moves : (about : DeskTerms) (slots id : ℕ) (me : Me Slot SeatView) → me.0.spent ≡ false → me.0.waits ≡ false → me.0.holds ≡ false
    → Allows (IsDeskTable about) slots id me 1 (λ n. (n + 1) % 2 ^ 64) (Draws me)
draws_moves about slots id me live idle free s kept len here small =
    let h = kept.history in
    let f = kept.faults in
    let q = kept.queue in
    let sv = kept.served in
    let a : ℕ = (length h + length f) % 2 ^ 64 in
    let n : ℕ = (sv + length q) % 2 ^ 64 in
    let w = at_turn me.0 true n false in
    let seat = in_use about h f s.views kept.seats id me.0 here live in
    let long : length (q ++ id ∷ []) ≡ length q + 1 = length-append q (id ∷ []) in
    let words : a ∷ ((n + 1) % 2 ^ 64) ∷ sv % 2 ^ 64 ∷ [] ≡ words_of h f (q ++ id ∷ []) sv =
    ap (λ (z : ℕ). a ∷ z ∷ sv % 2 ^ 64 ∷ []) (mod-add-mod (sv + length q) (2 ^ 64) 1 ∙ ap (λ (z : ℕ). z % 2 ^ 64) (omega arith)) in
    let mine : IsSeat about h f id w = record { spent = live; about = seat.about; number = seat.number; seen = seat.seen; mine = seat.mine; failed = seat.failed } in
    let body : Goes (IsDeskTable about) (λ ws. slice_set ws 1 ((slice_index ws 1 + 1) % 2 ^ 64)) (λ ws. slice_index ws 1) (Draws me) id me s.views (a ∷ n ∷ sv % 2 ^ 64 ∷ []) s.homes = (
      w,
      keeps,
      tt,
      record {
        history = h;
        faults = f;
        queue = q ++ id ∷ [];
        served = sv;
        words = words;
        lists = lists_set about h f s.views id w kept.lists;
        seats = seats_set about h f s.views h f id me.0 w kept.seats here live mine refl refl (grows_same about.base id h f);
        order = order_draw s.views q sv id me.0 w kept.order here idle refl refl;
        turn = turn_set about h f s.homes s.views q (q ++ id ∷ []) id me.0 w here free refl (λ i first. get_snoc_old q id 0 i first) kept.turn;
      },
      refl,
    ) in
    subst (λ ws. Goes (IsDeskTable about) (λ ws. slice_set ws 1 ((slice_index ws 1 + 1) % 2 ^ 64)) (λ ws. slice_index ws 1) (Draws me) id me s.views ws s.homes) (sym kept.words) body
