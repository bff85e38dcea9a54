-- The served word is read, and the turn is taken where it has the seat's ticket.
use Rattle.std.proofs.Common.{◌≡◌, ◌+◌, ◌%◌, ◌^◌, ◌≤◌, ℕ, List, [], ◌∷◌, length, Bool, true, false, Some, true≢false, refl, sym, ap, ◌∙◌, subst, inl, inr}
use Rattle.std.specs.Prelude.{slice_index, slice_set}
use Rattle.std.specs.Bool.{MatchBool}
use Rattle.std.proofs.lemmas.Bool.Decides.{eqb_tells}
use mathlib.Core.Option as found
use lib.ListN.{get_elem?}
use Rattle.atomic_table.specs.Table.{State, Me, keeps, takes, Allows}
use Rattle.atomic_table.proofs.Lists.{set_again}
use Rattle.book.specs.LegalDeeds.{is_legal}
use Rattle.shared_desk.specs.declared.turns.DeskTerms.{DeskTerms}
use Rattle.shared_desk.specs.declared.turns.SeatView.{SeatView}
use Rattle.shared_desk.specs.Entries.{mine_of}
use Rattle.shared_desk.specs.Turns.{Slot, IsDeskTable, HasLists, IsSeat, at_turn, with_lists, TakesTurn, Asks}
use Rattle.shared_desk.proofs.Lists.{set_same, each_set, one_there}
use Rattle.shared_desk.proofs.EntryLists.{seen_all}
use Rattle.shared_desk.proofs.Orders.{is_first, order_same}
use Rattle.shared_desk.proofs.SeatLists.{in_use, seats_set, lists_set, grows_same}
use Rattle.shared_desk.proofs.Turning.{Goes}

-- nothing changed
pub stays : (about : DeskTerms) (s : State Slot SeatView) (id : ℕ) (v : SeatView) → IsDeskTable about s → get_elem? s.views id ≡ found.some v → IsDeskTable about record { words = s.words; homes = s.homes; views = slice_set s.views id v }
stays about s id v kept here = subst (λ vs. IsDeskTable about record { words = s.words; homes = s.homes; views = vs }) (sym (set_again s.views id v here)) kept

pub asks_moves : (about : DeskTerms) (slots id : ℕ) (me : Me Slot SeatView) → me.0.spent ≡ false → me.0.waits ≡ true → me.0.holds ≡ false → Allows (IsDeskTable about) slots id me 2 (λ n. n) (Asks me)
asks_moves about slots id me live waits free s kept len here small =
    let h = kept.history in
    let f = kept.faults in
    let q = kept.queue in
    let sv = kept.served in
    let o = kept.order in
    let a : ℕ = (length h + length f) % 2 ^ 64 in
    let n1 : ℕ = (sv + length q) % 2 ^ 64 in
    let n2 : ℕ = sv % 2 ^ 64 in
    let ws : List ℕ = a ∷ n1 ∷ n2 ∷ [] in
    let kept' : IsDeskTable about record { words = ws; homes = s.homes; views = s.views } = subst (λ ws. IsDeskTable about record { words = ws; homes = s.homes; views = s.views }) kept.words kept in
    let w = at_turn (with_lists me.0 h f) true me.0.ticket true in
    let seat = in_use about h f s.views kept.seats id me.0 here live in
    let Ask : List (found.Option Slot) → Type 0 = Goes (IsDeskTable about) (λ ws. slice_set ws 2 (slice_index ws 2)) (λ ws. slice_index ws 2) (Asks me) id me s.views ws in
    let told : (x : Me Slot SeatView) → Bool → Type 0 = λ x b. MatchBool b (TakesTurn me x) (x ≡ me) in
    let mine : IsSeat about h f id w = record { spent = live; about = seat.about; number = seat.number; seen = seen_all about.base h f me.0.number; mine = ap (λ (x : DeskTerms). mine_of x.base me.0.number h) seat.about; failed = refl } in
    let body : Ask s.homes = elim (eqb_tells n2 me.0.ticket) [
      | inl hit ↦
          let first = is_first s.views q sv id me.0 kept.seats.few o here waits (sym hit.1) in
          elim kept.turn [
            | inl home ↦
                let at_about : (P : DeskTerms → Type 0) → P about → P me.0.about = λ P p. subst P (sym seat.about) p in
                let takes_turn : TakesTurn me (w, (0, Some home.value) ∷ me.1) = record {
                  view = refl;
                  seen = seat.seen.seen;
                  mine = at_about (λ x. mine_of x.base me.0.number h ≡ mine_of x.base me.0.number me.0.seen) (sym seat.seen.mine);
                  faults = seat.seen.faults;
                  failed = sym seat.seen.failed;
                  legal = at_about (λ x. is_legal x.limit h ≡ true) kept.lists.legal;
                  base = at_about (λ x. x.base ≤ length h) kept.lists.base;
                  value = home.value;
                  hand = refl;
                  lists = at_about (λ x. HasLists x h f home.value) home.lists;
                } in
                let taken : Ask (found.some (Some home.value) ∷ []) = (
                  w,
                  takes 0 (Some home.value),
                  refl,
                  record {
                    history = h;
                    faults = f;
                    queue = q;
                    served = sv;
                    words = refl;
                    lists = lists_set about h f s.views id w kept.lists;
                    seats = seats_set about h f s.views h f id me.0 w kept.seats here live mine refl refl (grows_same about.base id h f);
                    order = order_same s.views q sv id me.0 w o here (sym waits) (λ t. refl);
                    turn = inr record {
                      homes = refl;
                      by = id;
                      first = first;
                      holder = w;
                      is_it = set_same s.views id me.0 w here;
                      holds = refl;
                      seen = refl;
                      faults = refl;
                      only = each_set (λ i v. v.holds ≡ true → i ≡ id) s.views id w (λ _. refl) (λ i v ne e holds. absurd (true≢false (sym holds ∙ home.nobody i v e)));
                    };
                  },
                  subst (told (w, (0, Some home.value) ∷ me.1)) (sym hit.0) takes_turn,
                ) in
                subst Ask (sym home.homes) taken
            | inr out ↦
                let by_me : out.by ≡ id = (let e : Some out.by ≡ Some id = sym out.first ∙ first in cc) in
                let same : out.holder ≡ me.0 = one_there s.views id out.holder me.0 (sym (ap (get_elem? s.views) by_me) ∙ out.is_it) here in
                absurd (true≢false (sym out.holds ∙ (ap (λ (z : SeatView). z.holds) same ∙ free)))
          ]
      | inr miss ↦ (me.0, keeps, tt, stays about record { words = ws; homes = s.homes; views = s.views } id me.0 kept' here, subst (told me) (sym miss.0) refl)
    ] in
    subst (λ ws. Goes (IsDeskTable about) (λ ws. slice_set ws 2 (slice_index ws 2)) (λ ws. slice_index ws 2) (Asks me) id me s.views ws s.homes) (sym kept.words) body
