-- The seats, after a change of one, and one more.
use Rattle.std.proofs.Common.{◌≡◌, ◌≢◌, ◌⊎◌, ◌≤◌, ℕ, List, length, false, true≢false, refl, sym, ap, ◌∙◌, subst, inl, inr, length-set}
use Rattle.std.specs.Prelude.{slice_set, map, All, AllPairs}
use Rattle.std.proofs.lemmas.List.Elements.{All-weaker}
use mathlib.Core.Option as found
use lib.ListN.{get_elem?}
use Rattle.desk_outside.specs.declared.deed.Deed.{Deed}
use Rattle.shared_desk.specs.declared.turns.DeskTerms.{DeskTerms}
use Rattle.shared_desk.specs.declared.turns.JoinedSeat.{JoinedSeat}
use Rattle.shared_desk.specs.declared.turns.SeatView.{SeatView}
use Rattle.shared_desk.specs.Turns.{HasSeen, IsSpent, IsSeat, IsNoted, IsFirst, AreSeats, IsHistory}
use Rattle.shared_desk.proofs.Lists.{set_other, each_set, one_there}
use Rattle.shared_desk.proofs.EntryLists.{seen_all}
use Rattle.shared_desk.proofs.Numbers.{is_first_seat, noted_differ}

-- what others have seen stays true of the longer lists
abbrev pub Grows : ℕ → ℕ → List Deed → List ℕ → List Deed → List ℕ → Type 0
Grows base id history faults history' faults' =
    (n : ℕ) (seen : List Deed) (seen_faults : List ℕ) → n ≢ id → HasSeen base history faults n seen seen_faults → HasSeen base history' faults' n seen seen_faults

pub grows_same : (base id : ℕ) (history : List Deed) (faults : List ℕ) → Grows base id history faults history faults
grows_same base id history faults n seen seen_faults ne has = has

-- the history of as many seats
pub lists_set : (about : DeskTerms) (history : List Deed) (faults : List ℕ) (views : List SeatView) (id : ℕ) (w : SeatView) → IsHistory about (length views) history faults → IsHistory about (length (slice_set views id w)) history faults
lists_set about history faults views id w = subst (λ n. IsHistory about n history faults) (sym (length-set views id w))

module _ (about : DeskTerms) (history : List Deed) (faults : List ℕ) (views : List SeatView) where
  -- a seat that isn't spent is in use
  pub in_use : AreSeats about history faults views → (id : ℕ) (v : SeatView) → get_elem? views id ≡ found.some v → v.spent ≡ false → IsSeat about history faults id v
  in_use seats id v here live =
      elim (seats.each id v here) [
        | inl spent ↦ absurd (true≢false (sym spent.spent ∙ live))
        | inr seat ↦ seat
      ]

  module _ (history' : List Deed) (faults' : List ℕ) (id : ℕ) (v w : SeatView) where
    noted_set : get_elem? views id ≡ found.some v → v.spent ≡ false → Grows about.base id history faults history' faults' → (note : JoinedSeat)
        → IsNoted about.base history faults views note → IsNoted about.base history' faults' (slice_set views id w) note
    noted_set here live grows note noted =
        let apart : note.number ≢ id = λ same.
        true≢false (sym noted.spent ∙ (ap (λ (z : SeatView). z.spent) (one_there views id noted.view v (sym (ap (get_elem? views) same) ∙ noted.is_it) here) ∙ live)) in
        record {
          seen = grows note.number note.seen note.faults apart noted.seen;
          view = noted.view;
          is_it = set_other views id note.number w apart ∙ noted.is_it;
          spent = noted.spent;
        }

    first_set : AreSeats about history faults views → get_elem? views id ≡ found.some v → v.spent ≡ false → w.spent ≡ false → w.given ≡ v.given → w.joined ≡ v.joined
        → Grows about.base id history faults history' faults' → ((i : ℕ) (u : SeatView) → get_elem? (slice_set views id w) i ≡ found.some u → IsSpent u ⊎ IsSeat about history' faults' i u)
        → (u : SeatView) → get_elem? (slice_set views id w) 0 ≡ found.some u → IsFirst about history' faults' (slice_set views id w) u
    first_set seats here live stays given joined grows each u at =
        let views' = slice_set views id w in
        let noted : (notes : List JoinedSeat) → All (IsNoted about.base history faults views) notes → All (IsNoted about.base history' faults' views') notes = λ notes all.
        All-weaker (IsNoted about.base history faults views) (IsNoted about.base history' faults' views') (noted_set here live grows) notes all in
        let long = sym (length-set views id w) in
        each_set (λ i u. i ≡ 0 → IsFirst about history' faults' views' u) views id w
        (λ zero.
        let f = seats.first v (sym (ap (get_elem? views) zero) ∙ here) in
        is_first_seat about history' faults' views' w stays (given ∙ (f.given ∙ long)) each (subst (All (IsNoted about.base history' faults' views')) (sym joined) (noted v.joined f.joined))
        (subst (λ (notes : List JoinedSeat). AllPairs (λ m n. m ≢ n) (map (λ (x : JoinedSeat). x.number) notes)) (sym joined) (noted_differ about history faults views v f)))
        (λ i u ne e zero.
        let f = seats.first u (sym (ap (get_elem? views) zero) ∙ e) in
        is_first_seat about history' faults' views' u f.spent (f.given ∙ long) each (noted u.joined f.joined) (noted_differ about history faults views u f))
        0 u at refl

    -- one seat has seen more
    pub seats_set : AreSeats about history faults views → get_elem? views id ≡ found.some v → v.spent ≡ false → IsSeat about history' faults' id w → w.given ≡ v.given → w.joined ≡ v.joined
        → Grows about.base id history faults history' faults' → AreSeats about history' faults' (slice_set views id w)
    seats_set seats here live mine given joined grows =
        let each : (i : ℕ) (u : SeatView) → get_elem? (slice_set views id w) i ≡ found.some u → IsSpent u ⊎ IsSeat about history' faults' i u =
        each_set (λ i u. IsSpent u ⊎ IsSeat about history' faults' i u) views id w (inr mine) (λ i u ne e. elim (seats.each i u e) [
          | inl spent ↦ inl spent
          | inr seat ↦
              let apart : u.number ≢ id = λ same. ne (sym seat.number ∙ same) in
              let all = grows u.number history faults apart (seen_all about.base history faults u.number) in
              inr record {
                spent = seat.spent;
                about = seat.about;
                number = seat.number;
                seen = grows u.number u.seen u.faults apart seat.seen;
                mine = seat.mine ∙ all.mine;
                failed = seat.failed ∙ all.failed;
              }
        ]) in
        record {
          few = subst (λ n. n ≤ 64) (sym (length-set views id w)) seats.few;
          each = each;
          first = first_set seats here live mine.spent given joined grows each;
        }
