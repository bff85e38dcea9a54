-- A seat of the next number is made.
use Rattle.std.proofs.Common.{◌≡◌, ◌≢◌, ◌⊎◌, ◌+◌, ◌<◌, ℕ, [], ◌∷◌, ◌++◌, length, false, true≢false, refl, sym, ap, ◌∙◌, subst, inl, inr, arith, length-append, length-set}
use Rattle.std.specs.Prelude.{slice_set, drop, All}
use Rattle.std.proofs.lemmas.List.Elements.{All-weaker}
use mathlib.Core.Option as found
use lib.ListN.{get_elem?}
use Rattle.atomic_table.specs.Table.{Splits}
use Rattle.atomic_table.proofs.Lists.{at_longer}
use Rattle.desk_outside.specs.declared.deed.Deed.{Deed}
use Rattle.shared_desk.specs.declared.turns.DeskTerms.{DeskTerms}
use Rattle.shared_desk.specs.declared.turns.JoinedSeat.{JoinedSeat}
use Rattle.shared_desk.specs.declared.turns.SeatView.{SeatView}
use Rattle.shared_desk.specs.Entries.{mine_of}
use Rattle.shared_desk.specs.Turns.{IsDeskTable, IsSpent, IsSeat, IsNoted, IsFirst, with_given, next_view}
use Rattle.shared_desk.proofs.Lists.{set_same, set_other, each_set, at_end, one_there}
use Rattle.shared_desk.proofs.EntryLists.{seen_new}
use Rattle.shared_desk.proofs.Orders.{order_same, order_more}
use Rattle.shared_desk.proofs.SeatLists.{in_use}
use Rattle.shared_desk.proofs.Numbers.{is_first_seat, noted_differ}
use Rattle.shared_desk.proofs.Turning.{turn_set, turn_more}

pub splits_moves : (about : DeskTerms) (id : ℕ) (v : SeatView) → v.spent ≡ false → v.number ≡ 0 → v.waits ≡ false → v.holds ≡ false → v.given < 64 → Splits (IsDeskTable about) id v (with_given v) (next_view v)
splits_moves about id v live numbered idle free room s kept here =
    let h = kept.history in
    let f = kept.faults in
    let left = with_given v in
    let right = next_view v in
    let views = slice_set s.views id left in
    let seat = in_use about h f s.views kept.seats id v here live in
    let is_zero : id ≡ 0 = sym seat.number ∙ numbered in
    let first = kept.seats.first v (sym (ap (get_elem? s.views) is_zero) ∙ here) in
    let as_long : length views ≡ length s.views = length-set s.views id left in
    let longer : length (views ++ right ∷ []) ≡ length s.views + 1 = length-append views (right ∷ []) ∙ ap (λ (n : ℕ). n + 1) as_long in
    let wide : (n : ℕ) → n < length s.views → n < length (views ++ right ∷ []) = λ n below. omega arith in
    let last : v.given ≡ length views = first.given ∙ sym as_long in
    let here_now : get_elem? (views ++ right ∷ []) 0 ≡ found.some left =
    at_longer views (right ∷ []) 0 left (subst (λ i. get_elem? views i ≡ found.some left) is_zero (set_same s.views id v left here)) in
    let noted : (note : JoinedSeat) → IsNoted about.base h f s.views note → IsNoted about.base h f (views ++ right ∷ []) note = λ note n.
    let apart : note.number ≢ id = λ same. true≢false (sym n.spent ∙ (ap (λ (z : SeatView). z.spent) (one_there s.views id n.view v (sym (ap (get_elem? s.views) same) ∙ n.is_it) here) ∙ live)) in
    record {
      seen = n.seen;
      view = n.view;
      is_it = at_longer views (right ∷ []) note.number n.view (set_other s.views id note.number left apart ∙ n.is_it);
      spent = n.spent;
    } in
    let new_seen = seen_new about.base h f v.given v.seen v.faults seat.seen.seen seat.seen.faults
    (subst (λ n. All (λ (d : Deed). d.by < n) (drop about.base h)) (sym first.given) kept.lists.by_seats) (subst (λ n. All (λ (k : ℕ). k < n) f) (sym first.given) kept.lists.of_seats) in
    let new_seat : IsSeat about h f v.given right = record {
      spent = refl;
      about = seat.about;
      number = refl;
      seen = new_seen;
      mine = ap (λ (x : DeskTerms). mine_of x.base v.given v.seen) seat.about ∙ new_seen.mine;
      failed = new_seen.failed;
    } in
    let each : (i : ℕ) (u : SeatView) → get_elem? (views ++ right ∷ []) i ≡ found.some u → IsSpent u ⊎ IsSeat about h f i u = λ i u e.
    elim (at_end views right u i e) [
      | inl old ↦ each_set (λ i u. IsSpent u ⊎ IsSeat about h f i u) s.views id left (inr record { spent = live; about = seat.about; number = seat.number; seen = seat.seen; mine = seat.mine; failed = seat.failed }) (λ i u ne e. kept.seats.each i u e) i u old
      | inr new ↦ inr (subst (IsSeat about h f i) new.1 (subst (λ k. IsSeat about h f k right) (last ∙ sym new.0) new_seat))
    ] in
    record {
      history = h;
      faults = f;
      queue = kept.queue;
      served = kept.served;
      words = kept.words;
      lists = record {
        legal = kept.lists.legal;
        base = kept.lists.base;
        by_seats = All-weaker (λ (d : Deed). d.by < length s.views) (λ (d : Deed). d.by < length (views ++ right ∷ [])) (λ d below. wide d.by below) (drop about.base h) kept.lists.by_seats;
        of_seats = All-weaker (λ (k : ℕ). k < length s.views) (λ (k : ℕ). k < length (views ++ right ∷ [])) wide f kept.lists.of_seats;
      };
      seats = record {
        few = (let e = first.given in omega arith);
        each = each;
        first = λ u e. subst (IsFirst about h f (views ++ right ∷ [])) (one_there (views ++ right ∷ []) 0 left u here_now e)
            (is_first_seat about h f (views ++ right ∷ []) left live (ap (λ (n : ℕ). n + 1) first.given ∙ sym longer) each
            (All-weaker (IsNoted about.base h f s.views) (IsNoted about.base h f (views ++ right ∷ [])) noted v.joined first.joined) (noted_differ about h f s.views v first));
      };
      order = order_more views kept.queue kept.served right (order_same s.views kept.queue kept.served id v left kept.order here refl (λ t. refl)) refl;
      turn = turn_more about h f s.homes views kept.queue right refl (turn_set about h f s.homes s.views kept.queue kept.queue id v left here free free (λ i e. e) kept.turn);
    }
