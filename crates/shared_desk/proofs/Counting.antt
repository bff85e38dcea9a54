-- A deed or a fault counts.
use Rattle.std.proofs.Common.{◌≡◌, ◌+◌, ◌%◌, ◌^◌, ◌<◌, ℕ, List, [], ◌∷◌, ◌++◌, length, true, false, Some, true≢false, refl, sym, ap, ◌∙◌, subst, inl, inr, arith, length-append}
use Rattle.std.specs.Prelude.{slice_index, slice_set, slice_get, drop, All}
use Rattle.std.proofs.Math.Nat.{mod-add-mod}
use Rattle.std.proofs.lemmas.List.{drop-append-le}
use Rattle.std.proofs.lemmas.List.Elements.{All-append, All-cons, All-nil}
use mathlib.Core.Option as found
use lib.ListN.{get_elem?}
use Rattle.atomic_table.specs.Table.{State, Me, keeps, Allows}
use Rattle.desk_outside.specs.declared.deed.Deed.{Deed}
use Rattle.book.specs.LegalDeeds.{is_legal}
use Rattle.shared_desk.specs.declared.turns.DeskTerms.{DeskTerms}
use Rattle.shared_desk.specs.declared.turns.SeatView.{SeatView}
use Rattle.shared_desk.specs.Entries.{mine_of}
use Rattle.shared_desk.specs.OpenBooks.{OpenBookFacts}
use Rattle.shared_desk.specs.Turns.{Slot, IsDeskTable, IsHistory, IsSeat, IsOut, words_of, with_lists, caught_up, Counts, AddsOne}
use Rattle.shared_desk.proofs.Lists.{set_same, each_set, one_there, at_below}
use Rattle.shared_desk.proofs.EntryLists.{seen_all, seen_deed, seen_fault}
use Rattle.shared_desk.proofs.Orders.{order_same}
use Rattle.shared_desk.proofs.SeatLists.{Grows, in_use, seats_set, lists_set}
use Rattle.shared_desk.proofs.Turning.{Goes}

-- with the lists of the book in hand
caught : (v : SeatView) (hand : List (ℕ × Slot)) (b : OpenBookFacts) (history : List Deed) (faults : List ℕ) → hand ≡ (0, Some b) ∷ [] → b.book.deeds ≡ history → b.faults ≡ faults → with_lists v history faults ≡ caught_up v hand
caught v hand b history faults is deeds faulted =
    ap (with_lists v history) (sym faulted) ∙ (ap (λ (ds : List Deed). with_lists v ds b.faults) (sym deeds) ∙ ap (caught_up v) (sym is))

module _ (about : DeskTerms) (slots id : ℕ) (me : Me Slot SeatView) (b : OpenBookFacts) (live : me.0.spent ≡ false) (holds : me.0.holds ≡ true) (hand : me.1 ≡ (0, Some b) ∷ []) where
  -- to these lists, which are one longer
  counted : (s : State Slot SeatView) (kept : IsDeskTable about s) (here : get_elem? s.views id ≡ found.some me.0) (out : IsOut kept.history kept.faults s.homes s.views kept.queue) → id ≡ out.by → (history : List Deed) (faults : List ℕ)
      → length history + length faults ≡ (length kept.history + length kept.faults) + 1 → IsHistory about (length s.views) history faults
      → Grows about.base id kept.history kept.faults history faults → b.book.deeds ≡ history → b.faults ≡ faults
      → Goes (IsDeskTable about) (λ ws. slice_set ws 0 ((slice_index ws 0 + 1) % 2 ^ 64)) (λ ws. slice_index ws 0) (Counts me) id me s.views s.words s.homes
  counted s kept here out by_me history faults longer lists grows deeds faulted =
      let q = kept.queue in
      let sv = kept.served in
      let a : ℕ = (length kept.history + length kept.faults) % 2 ^ 64 in
      let n1 : ℕ = (sv + length q) % 2 ^ 64 in
      let n2 : ℕ = sv % 2 ^ 64 in
      let w = with_lists me.0 history faults in
      let seat = in_use about kept.history kept.faults s.views kept.seats id me.0 here live in
      let words : ((a + 1) % 2 ^ 64) ∷ n1 ∷ n2 ∷ [] ≡ words_of history faults q sv =
      ap (λ (z : ℕ). z ∷ n1 ∷ n2 ∷ []) (mod-add-mod (length kept.history + length kept.faults) (2 ^ 64) 1 ∙ ap (λ (z : ℕ). z % 2 ^ 64) (sym longer)) in
      let mine : IsSeat about history faults id w = record { spent = live; about = seat.about; number = seat.number; seen = seen_all about.base history faults me.0.number; mine = ap (λ (x : DeskTerms). mine_of x.base me.0.number history) seat.about; failed = refl } in
      let Count : List ℕ → List (found.Option Slot) → Type 0 = λ ws hs. Goes (IsDeskTable about) (λ ws. slice_set ws 0 ((slice_index ws 0 + 1) % 2 ^ 64)) (λ ws. slice_index ws 0) (Counts me) id me s.views ws hs in
      let body : Count (a ∷ n1 ∷ n2 ∷ []) (found.none ∷ []) = (
        w,
        keeps,
        tt,
        record {
          history = history;
          faults = faults;
          queue = q;
          served = sv;
          words = words;
          lists = lists_set about history faults s.views id w lists;
          seats = seats_set about kept.history kept.faults s.views history faults id me.0 w kept.seats here live mine refl refl grows;
          order = order_same s.views q sv id me.0 w kept.order here refl (λ t. refl);
          turn = inr record {
            homes = refl;
            by = id;
            first = subst (λ i. slice_get q 0 ≡ Some i) (sym by_me) out.first;
            holder = w;
            is_it = set_same s.views id me.0 w here;
            holds = holds;
            seen = refl;
            faults = refl;
            only = each_set (λ i v. v.holds ≡ true → i ≡ id) s.views id w (λ _. refl) (λ i v ne e h. out.only i v e h ∙ sym by_me);
          };
        },
        ap (λ (v : SeatView). (v, me.1)) (caught me.0 me.1 b history faults hand deeds faulted),
      ) in
      subst (λ ws. Count ws s.homes) (sym kept.words) (subst (Count (a ∷ n1 ∷ n2 ∷ [])) (sym out.homes) body)

  pub counts_moves : AddsOne me.0 b → Allows (IsDeskTable about) slots id me 0 (λ n. (n + 1) % 2 ^ 64) (Counts me)
  counts_moves adds s kept len here small =
      elim kept.turn [
        | inl home ↦ absurd (true≢false (sym holds ∙ home.nobody id me.0 here))
        | inr out ↦
            let by_me : id ≡ out.by = out.only id me.0 here holds in
            let same : out.holder ≡ me.0 = one_there s.views id out.holder me.0 (ap (get_elem? s.views) by_me ∙ out.is_it) here in
            let seen : me.0.seen ≡ kept.history = ap (λ (v : SeatView). v.seen) (sym same) ∙ out.seen in
            let faulted : me.0.faults ≡ kept.faults = ap (λ (v : SeatView). v.faults) (sym same) ∙ out.faults in
            let seat = in_use about kept.history kept.faults s.views kept.seats id me.0 here live in
            let below : me.0.number < length s.views = subst (λ n. n < length s.views) (sym seat.number) (at_below s.views id me.0 here) in
            let old = kept.lists in
            elim adds [
              | inl deed ↦
                  let d = deed.deed in
                  let deeds : b.book.deeds ≡ kept.history ++ d ∷ [] = deed.lists.deeds ∙ ap (λ ds. ds ++ d ∷ []) seen in
                  let by_id : d.by ≡ id = deed.by ∙ seat.number in
                  let P : Deed → Type 0 = λ (x : Deed). x.by < length s.views in
                  let one : P d = subst (λ n. n < length s.views) (sym deed.by) below in
                  let long : length (kept.history ++ d ∷ []) ≡ length kept.history + 1 = length-append kept.history (d ∷ []) in
                  counted s kept here out by_me (kept.history ++ d ∷ []) kept.faults (omega arith)
                  record {
                    legal = subst (λ ds. is_legal about.limit ds ≡ true) (ap (λ ds. ds ++ d ∷ []) seen) (subst (λ (x : DeskTerms). is_legal x.limit (me.0.seen ++ d ∷ []) ≡ true) seat.about deed.legal);
                    base = (let e = old.base in omega arith);
                    by_seats = subst (All P) (sym (drop-append-le about.base kept.history (d ∷ []) old.base)) (All-append P (drop about.base kept.history) (d ∷ []) old.by_seats (All-cons P d [] one (All-nil P)));
                    of_seats = old.of_seats;
                  }
                  (λ n seen seen_faults apart has. seen_deed about.base kept.history kept.faults d old.base n seen seen_faults (λ e. apart (e ∙ by_id)) has) deeds
                  (deed.lists.faults ∙ faulted)
              | inr fault ↦
                  let k = me.0.number in
                  let faults : b.faults ≡ kept.faults ++ k ∷ [] = fault.faults ∙ ap (λ ks. ks ++ k ∷ []) faulted in
                  let P : ℕ → Type 0 = λ (x : ℕ). x < length s.views in
                  let long : length (kept.faults ++ k ∷ []) ≡ length kept.faults + 1 = length-append kept.faults (k ∷ []) in
                  counted s kept here out by_me kept.history (kept.faults ++ k ∷ []) (omega arith)
                  record {
                    legal = old.legal;
                    base = old.base;
                    by_seats = old.by_seats;
                    of_seats = All-append P kept.faults (k ∷ []) old.of_seats (All-cons P k [] below (All-nil P));
                  }
                  (λ n seen seen_faults apart has. seen_fault about.base kept.history kept.faults k n seen seen_faults (λ e. apart (e ∙ seat.number)) has)
                  (fault.deeds ∙ seen) faults
            ]
      ]
