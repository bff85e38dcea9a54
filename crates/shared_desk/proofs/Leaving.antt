-- The turn is given up, and the open book goes home.
use Rattle.std.proofs.Common.{◌≡◌, ◌+◌, ◌%◌, ◌^◌, ℕ, List, [], ◌∷◌, length, true, false, Some, true≢false, refl, sym, ap, ◌∙◌, subst, inl, inr, arith}
use Rattle.std.specs.Prelude.{slice_index, slice_set, slice_get}
use Rattle.std.proofs.Math.Nat.{mod-add-mod}
use mathlib.Core.Option as found
use lib.ListN.{get_elem?}
use Rattle.atomic_table.specs.Table.{Me, gives, Allows}
use Rattle.shared_desk.specs.declared.turns.DeskTerms.{DeskTerms}
use Rattle.shared_desk.specs.declared.turns.SeatView.{SeatView}
use Rattle.shared_desk.specs.OpenBooks.{OpenBookFacts}
use Rattle.shared_desk.specs.Turns.{Slot, IsDeskTable, HasLists, IsSeat, words_of, at_turn, Leaves}
use Rattle.shared_desk.proofs.Lists.{each_set, one_there, uncons, not_true}
use Rattle.shared_desk.proofs.Orders.{order_leave}
use Rattle.shared_desk.proofs.SeatLists.{in_use, seats_set, lists_set, grows_same}
use Rattle.shared_desk.proofs.Turning.{Goes}

pub leaves_moves : (about : DeskTerms) (slots id : ℕ) (me : Me Slot SeatView) (b : OpenBookFacts) → me.0.spent ≡ false → me.0.holds ≡ true → me.0.waits ≡ true → me.1 ≡ (0, Some b) ∷ []
    → HasLists me.0.about me.0.seen me.0.faults b → Allows (IsDeskTable about) slots id me 2 (λ n. (n + 1) % 2 ^ 64) (Leaves me)
leaves_moves about slots id me b live holds waits hand lists s kept len here small =
    let h = kept.history in
    let f = kept.faults in
    let q = kept.queue in
    let sv = kept.served in
    let a : ℕ = (length h + length f) % 2 ^ 64 in
    let n1 : ℕ = (sv + length q) % 2 ^ 64 in
    let n2 : ℕ = sv % 2 ^ 64 in
    let w = at_turn me.0 false 0 false in
    let seat = in_use about h f s.views kept.seats id me.0 here live in
    elim kept.turn [
      | inl home ↦ absurd (true≢false (sym holds ∙ home.nobody id me.0 here))
      | inr out ↦
          let mine : id ≡ out.by = out.only id me.0 here holds in
          let same : out.holder ≡ me.0 = one_there s.views id out.holder me.0 (ap (get_elem? s.views) mine ∙ out.is_it) here in
          let seen : me.0.seen ≡ h = ap (λ (v : SeatView). v.seen) (sym same) ∙ out.seen in
          let faulted : me.0.faults ≡ f = ap (λ (v : SeatView). v.faults) (sym same) ∙ out.faults in
          let first : slice_get q 0 ≡ Some id = out.first ∙ ap Some (sym mine) in
          let u = uncons q id first in
          let r = u.0 in
          let long : length q ≡ length r + 1 = (let e = ap length u.1 in omega arith) in
          let words : a ∷ n1 ∷ ((n2 + 1) % 2 ^ 64) ∷ [] ≡ words_of h f r (sv + 1) =
          ap (λ (y : ℕ × ℕ). a ∷ y.0 ∷ y.1 ∷ []) (λ i. ((ap (λ (z : ℕ). z % 2 ^ 64) (let e : sv + length q ≡ (sv + 1) + length r = omega arith in e)) i, (mod-add-mod sv (2 ^ 64) 1) i)) in
          let as_seat : IsSeat about h f id w = record { spent = live; about = seat.about; number = seat.number; seen = seat.seen; mine = seat.mine; failed = seat.failed } in
          let Leave : List ℕ → List (found.Option Slot) → Type 0 = λ ws hs. Goes (IsDeskTable about) (λ ws. slice_set ws 2 ((slice_index ws 2 + 1) % 2 ^ 64)) (λ ws. slice_index ws 2) (Leaves me) id me s.views ws hs in
          let body : Leave (a ∷ n1 ∷ n2 ∷ []) (found.none ∷ []) = (
            w,
            gives,
            tt,
            record {
              history = h;
              faults = f;
              queue = r;
              served = sv + 1;
              words = words;
              lists = lists_set about h f s.views id w kept.lists;
              seats = seats_set about h f s.views h f id me.0 w kept.seats here live as_seat refl refl (grows_same about.base id h f);
              order = order_leave s.views q r sv id me.0 w kept.seats.few kept.order here waits refl u.1;
              turn = inl record {
                value = b;
                homes = rw hand refl;
                lists = record {
                  deeds = lists.deeds ∙ seen;
                  faults = lists.faults ∙ faulted;
                  opened = lists.opened ∙ ap (λ (x : DeskTerms). x.opened) seat.about;
                  limit = lists.limit ∙ ap (λ (x : DeskTerms). x.limit) seat.about;
                  tells = lists.tells ∙ ap (λ (x : DeskTerms). x.tells) seat.about;
                };
                nobody = each_set (λ i v. v.holds ≡ false) s.views id w refl (λ i v ne e. not_true v.holds (λ t. ne (out.only i v e t ∙ sym mine)));
              };
            },
            refl,
          ) in
          subst (λ ws. Leave ws s.homes) (sym kept.words) (subst (Leave (a ∷ n1 ∷ n2 ∷ [])) (sym out.homes) body)
    ]
