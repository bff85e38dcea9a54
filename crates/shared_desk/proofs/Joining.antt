-- A seat is joined into the first.
use Rattle.std.proofs.Common.{◌≡◌, ◌≢◌, ◌⊎◌, ◌≤◌, ℕ, [], ◌∷◌, length, false, true≢false, refl, sym, ap, ◌∙◌, subst, inl, inr, length-set}
use Rattle.std.specs.Prelude.{slice_set, All}
use Rattle.std.proofs.lemmas.List.Elements.{All-weaker, All-append, All-cons, All-nil}
use mathlib.Core.Option as found
use lib.ListN.{get_elem?}
use Rattle.atomic_table.specs.Table.{Joins}
use Rattle.shared_desk.specs.declared.turns.DeskTerms.{DeskTerms}
use Rattle.shared_desk.specs.declared.turns.JoinedSeat.{JoinedSeat}
use Rattle.shared_desk.specs.declared.turns.SeatView.{SeatView}
use Rattle.shared_desk.specs.Turns.{IsDeskTable, IsSpent, IsSeat, IsNoted, IsFirst, with_note, note_of, spent_view, IsHistory}
use Rattle.shared_desk.proofs.Lists.{set_same, set_other, each_set, one_there}
use Rattle.shared_desk.proofs.Orders.{order_same}
use Rattle.shared_desk.proofs.SeatLists.{in_use}
use Rattle.shared_desk.proofs.Longest.{seen_longer}
use Rattle.shared_desk.proofs.Numbers.{is_first_seat, noted_differ, note_differs}
use Rattle.shared_desk.proofs.Turning.{turn_set}

pub joins_moves : (about : DeskTerms) (id : ℕ) (v : SeatView) (other : ℕ) (w : SeatView) → v.spent ≡ false → v.number ≡ 0 → v.holds ≡ false → w.spent ≡ false → w.waits ≡ false → w.holds ≡ false
    → Joins (IsDeskTable about) id v other w (with_note v w) spent_view
joins_moves about id v other w live numbered free live_too idle_too free_too s kept here ne there =
    let h = kept.history in
    let f = kept.faults in
    let both = with_note v w in
    let one = slice_set s.views id both in
    let views = slice_set one other spent_view in
    let was : get_elem? s.views other ≡ found.some w = sym (set_other s.views id other both ne) ∙ there in
    let seat = in_use about h f s.views kept.seats id v here live in
    let seat_too = in_use about h f s.views kept.seats other w was live_too in
    let is_zero : id ≡ 0 = sym seat.number ∙ numbered in
    let first = kept.seats.first v (sym (ap (get_elem? s.views) is_zero) ∙ here) in
    let as_long : length views ≡ length s.views = length-set one other spent_view ∙ length-set s.views id both in
    let spent_there : get_elem? views other ≡ found.some spent_view = set_same one other w spent_view there in
    let here_now : get_elem? views 0 ≡ found.some both =
    subst (λ i. get_elem? views i ≡ found.some both) is_zero (set_other one other id spent_view (λ e. ne (sym e)) ∙ set_same s.views id v both here) in
    let noted : (note : JoinedSeat) → IsNoted about.base h f s.views note → IsNoted about.base h f views note = λ note n.
    let apart : note.number ≢ id = λ same. true≢false (sym n.spent ∙ (ap (λ (z : SeatView). z.spent) (one_there s.views id n.view v (sym (ap (get_elem? s.views) same) ∙ n.is_it) here) ∙ live)) in
    let not_it : note.number ≢ other = λ same. true≢false (sym n.spent ∙ (ap (λ (z : SeatView). z.spent) (one_there s.views other n.view w (sym (ap (get_elem? s.views) same) ∙ n.is_it) was) ∙ live_too)) in
    record {
      seen = n.seen;
      view = n.view;
      is_it = set_other one other note.number spent_view not_it ∙ (set_other s.views id note.number both apart ∙ n.is_it);
      spent = n.spent;
    } in
    let new_note : IsNoted about.base h f views (note_of w) = record {
      seen = seat_too.seen;
      view = spent_view;
      is_it = subst (λ i. get_elem? views i ≡ found.some spent_view) (sym seat_too.number) spent_there;
      spent = refl;
    } in
    let Noted : JoinedSeat → Type 0 = IsNoted about.base h f views in
    let both_seat : IsSeat about h f id both = record {
      spent = live;
      about = seat.about;
      number = seat.number;
      seen = seen_longer about.base h f v.number v.seen w.seen v.faults w.faults seat.seen seat_too.seen.seen seat_too.seen.faults;
      mine = seat.mine;
      failed = seat.failed;
    } in
    let each : (i : ℕ) (u : SeatView) → get_elem? views i ≡ found.some u → IsSpent u ⊎ IsSeat about h f i u =
    each_set (λ i u. IsSpent u ⊎ IsSeat about h f i u) one other spent_view (inl record { spent = refl; waits = refl; holds = refl })
    (λ i u ne e. each_set (λ i u. IsSpent u ⊎ IsSeat about h f i u) s.views id both (inr both_seat) (λ i u ne e. kept.seats.each i u e) i u e) in
    let not_yet : All (λ (x : JoinedSeat). x.number ≢ w.number) v.joined = All-weaker (IsNoted about.base h f s.views) (λ (x : JoinedSeat). x.number ≢ w.number)
    (λ x n same. true≢false (sym n.spent ∙ (ap (λ (z : SeatView). z.spent) (one_there s.views other n.view w (sym (ap (get_elem? s.views) (same ∙ seat_too.number)) ∙ n.is_it) was) ∙ live_too)))
    v.joined first.joined in
    record {
      history = h;
      faults = f;
      queue = kept.queue;
      served = kept.served;
      words = kept.words;
      lists = subst (λ n. IsHistory about n h f) (sym as_long) kept.lists;
      seats = record {
        few = subst (λ n. n ≤ 64) (sym as_long) kept.seats.few;
        each = each;
        first = λ u e. subst (IsFirst about h f views) (one_there views 0 both u here_now e)
            (is_first_seat about h f views both live (first.given ∙ sym as_long) each
            (All-append Noted v.joined (note_of w ∷ []) (All-weaker (IsNoted about.base h f s.views) Noted noted v.joined first.joined) (All-cons Noted (note_of w) [] new_note (All-nil Noted)))
            (note_differs v.joined (note_of w) (noted_differ about h f s.views v first) not_yet));
      };
      order = order_same one kept.queue kept.served other w spent_view (order_same s.views kept.queue kept.served id v both kept.order here refl (λ t. refl)) there (sym idle_too) (λ t. absurd (true≢false (sym t ∙ idle_too)));
      turn = turn_set about h f s.homes one kept.queue kept.queue other w spent_view there free_too refl (λ i e. e) (turn_set about h f s.homes s.views kept.queue kept.queue id v both here free free (λ i e. e) kept.turn);
    }
