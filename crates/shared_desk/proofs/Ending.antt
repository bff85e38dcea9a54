-- The last state: all seats were joined, so the open book is home.
use Rattle.std.proofs.Common.{◌≡◌, ◌<◌, ℕ, List, true, false, Some, true≢false, sym, ap, ◌∙◌, subst, inl, inr, arith, zero, suc}
use Rattle.std.specs.Prelude.{drop, All, is_some}
use Rattle.std.proofs.lemmas.List.Elements.{All-weaker, All-contains}
use mathlib.Core.Option as found
use lib.ListN.{get_elem?}
use Rattle.atomic_table.specs.Table.{State, Final, Seen}
use Rattle.desk_outside.specs.declared.deed.Deed.{Deed}
use Rattle.shared_desk.specs.declared.turns.DeskTerms.{DeskTerms}
use Rattle.shared_desk.specs.declared.turns.JoinedSeat.{JoinedSeat}
use Rattle.shared_desk.specs.declared.turns.SeatView.{SeatView}
use Rattle.shared_desk.specs.Entries.{mine_of, failed_of}
use Rattle.shared_desk.specs.OpenBooks.{OpenBookFacts}
use Rattle.shared_desk.specs.Turns.{Slot, IsDeskTable, HasSeen, IsNoted, IsLast, AllNoted}
use Rattle.shared_desk.proofs.Lists.{one_there, at_below}
use Rattle.shared_desk.proofs.SeatLists.{in_use}

-- a seat that is spent has no turn
spent_free : (about : DeskTerms) (s : State Slot SeatView) (kept : IsDeskTable about s) (i : ℕ) (u : SeatView) → get_elem? s.views i ≡ found.some u → u.spent ≡ true → u.holds ≡ false
spent_free about s kept i u here spent =
    elim (kept.seats.each i u here) [
      | inl is ↦ is.holds
      | inr seat ↦ absurd (true≢false (sym spent ∙ seat.spent))
    ]

-- nor has any other, where all were joined
nobody : (about : DeskTerms) (s : State Slot SeatView) (kept : IsDeskTable about s) (v : SeatView) → get_elem? s.views 0 ≡ found.some v → v.holds ≡ false → AllNoted v → (i : ℕ) (u : SeatView) → get_elem? s.views i ≡ found.some u → u.holds ≡ false
nobody about s kept v here free noted zero u at = ap (λ (z : SeatView). z.holds) (one_there s.views 0 u v at here) ∙ free
nobody about s kept v here free noted (suc i) u at =
    let first = kept.seats.first v here in
    let below = at_below s.views (suc i) u at in
    let given = first.given in
    let n = noted (suc i) (omega arith) (omega arith) in
    let is = All-contains (IsNoted about.base kept.history kept.faults s.views) v.joined n.0 first.joined n.1 in
    spent_free about s kept (suc i) u at (ap (λ (z : SeatView). z.spent) (one_there s.views (suc i) u is.view at (sym (ap (get_elem? s.views) n.2) ∙ is.is_it)) ∙ is.spent)

pub at_the_end : (about : DeskTerms) (id : ℕ) (v : SeatView) (words : List ℕ) (slots : List Slot) → v.spent ≡ false → v.number ≡ 0 → v.holds ≡ false → AllNoted v → Final (Seen (IsDeskTable about) id v) words slots
    → (b : OpenBookFacts) × (get_elem? slots 0 ≡ found.some (Some b)) × IsLast v b
at_the_end about id v words slots live numbered free noted final =
    let s = final.0 in
    let kept : IsDeskTable about s = final.1.0 in
    let here : get_elem? s.views id ≡ found.some v = final.1.1 in
    let h = kept.history in
    let f = kept.faults in
    let seat = in_use about h f s.views kept.seats id v here live in
    let is_zero : id ≡ 0 = sym seat.number ∙ numbered in
    let here_first : get_elem? s.views 0 ≡ found.some v = sym (ap (get_elem? s.views) is_zero) ∙ here in
    let first = kept.seats.first v here_first in
    elim kept.turn [
      | inl home ↦
          let b = home.value in
          let at_lists : (P : List Deed → List ℕ → Type 0) → P h f → P b.book.deeds b.faults = λ P p. subst (λ ds. P ds b.faults) (sym home.lists.deeds) (subst (P h) (sym home.lists.faults) p) in
          let at_about : (P : DeskTerms → Type 0) → P about → P v.about = λ P p. subst P (sym seat.about) p in (
            b,
            final.4 0 (Some b) (ap (λ hs. get_elem? hs 0) home.homes),
            record {
              opened = at_about (λ x. b.opened ≡ x.opened) home.lists.opened;
              limit = at_about (λ x. b.book.limit ≡ x.limit) home.lists.limit;
              tells = at_about (λ x. is_some b.book.rows ≡ x.tells) home.lists.tells;
              own = at_about (λ x. HasSeen x.base b.book.deeds b.faults 0 v.seen v.faults) (at_lists (λ ds fs. HasSeen about.base ds fs 0 v.seen v.faults) (subst (λ n. HasSeen about.base h f n v.seen v.faults) numbered seat.seen));
              mine = at_about (λ x. v.mine ≡ mine_of x.base 0 b.book.deeds) (at_lists (λ ds fs. v.mine ≡ mine_of about.base 0 ds) (subst (λ n. v.mine ≡ mine_of about.base n h) numbered seat.mine));
              failed = at_lists (λ ds fs. v.failed ≡ failed_of 0 fs) (subst (λ n. v.failed ≡ failed_of n f) numbered seat.failed);
              noted = at_about (λ x. All (λ (note : JoinedSeat). HasSeen x.base b.book.deeds b.faults note.number note.seen note.faults) v.joined)
                  (at_lists (λ ds fs. All (λ (note : JoinedSeat). HasSeen about.base ds fs note.number note.seen note.faults) v.joined)
                  (All-weaker (IsNoted about.base h f s.views) (λ (note : JoinedSeat). HasSeen about.base h f note.number note.seen note.faults) (λ note n. n.seen) v.joined first.joined));
              by_seats = at_about (λ x. All (λ (d : Deed). d.by < v.given) (drop x.base b.book.deeds))
                  (at_lists (λ ds fs. All (λ (d : Deed). d.by < v.given) (drop about.base ds)) (subst (λ n. All (λ (d : Deed). d.by < n) (drop about.base h)) (sym first.given) kept.lists.by_seats));
              of_seats = at_lists (λ ds fs. All (λ (k : ℕ). k < v.given) fs) (subst (λ n. All (λ (k : ℕ). k < n) f) (sym first.given) kept.lists.of_seats);
            },
          )
      | inr out ↦ absurd (true≢false (sym out.holds ∙ nobody about s kept v here_first free noted out.by out.holder out.is_it))
    ]

-- so it is what is taken out of the slot
pub taken_last : (about : DeskTerms) (id : ℕ) (v : SeatView) (words : List ℕ) (slots : List Slot) (slot : Slot) → v.spent ≡ false → v.number ≡ 0 → v.holds ≡ false → AllNoted v → Final (Seen (IsDeskTable about) id v) words slots
    → get_elem? slots 0 ≡ found.some slot → (b : OpenBookFacts) × (slot ≡ Some b) × IsLast v b
taken_last about id v words slots slot live numbered free noted final at =
    let last = at_the_end about id v words slots live numbered free noted final in
    (last.0, one_there slots 0 slot (Some last.0) at last.1, last.2)
