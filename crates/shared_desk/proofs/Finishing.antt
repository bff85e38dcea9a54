-- A desk that is finished.
use Rattle.std.proofs.Common.{◌≡◌, ◌+◌, ◌<◌, ◌≤◌, ℕ, zero, suc, List, [], ◌∷◌, length, true, true≢false, refl, sym, ap, ◌∙◌, subst, arith}
use Rattle.std.specs.Prelude.{Option, Some, None, is_some, option_map, slice_get, All, Contains, sum_by, nat_le, drop, slice_index_or}
use Rattle.std.specs.List.{filter, remove}
use Rattle.std.proofs.lemmas.Grind.{common_steps}
use Rattle.std.proofs.lemmas.List.Sums.{sum_by-cons}
use Rattle.std.proofs.lemmas.List.Elements.{All-contains, All-head, All-tail}
use Rattle.atomic_table.specs.Seated.{TableId}
use Rattle.desk_outside.specs.declared.deed.Deed.{Deed}
use Rattle.book.specs.Changes.{BookFacts, IsBook}
use Rattle.shared_desk.specs.declared.turns.JoinedSeat.{JoinedSeat}
use Rattle.shared_desk.specs.declared.turns.SeatView.{SeatView}
use Rattle.shared_desk.specs.Entries.{mine_of, failed_of}
use Rattle.shared_desk.specs.OpenBooks.{OpenBookFacts, AreCounted}
use Rattle.shared_desk.specs.Turns.{HasSeen, IsLast, AllNoted, IsJoined}
use Rattle.shared_desk.specs.Seats.{DeskFacts, SeatFacts, seat_of, desk_facts, seat_note, failed, IsSeatView}
use Rattle.shared_desk.specs.StartAndEnd.{AreAllSeats, IsFinished}
use Rattle.shared_desk.proofs.Longest.{prefix_on}

-- ---- the faults of all seats

one_number : (k : ℕ) (faults : List ℕ) → failed_of k faults + length (filter (λ x. nat_le (k + 1) x) faults) ≤ length (filter (λ x. nat_le k x) faults)
one_number k [] = omega arith
one_number k (x ∷ xs) = let ih = one_number k xs in grind (arith, common_steps, ih)

at_most_all : (k : ℕ) (faults : List ℕ) → length (filter (λ x. nat_le k x) faults) ≤ length faults
at_most_all k [] = omega arith
at_most_all k (x ∷ xs) = let ih = at_most_all k xs in grind (arith, common_steps, ih)

failures_from : (k : ℕ) (faults : List ℕ) (list : List SeatFacts) → ((i : ℕ) (seat : SeatFacts) → slice_get list i ≡ Some seat → failed seat ≡ failed_of (k + i) faults) → sum_by failed list ≤ length (filter (λ x. nat_le k x) faults)
failures_from k faults [] each = omega arith
failures_from k faults (s ∷ rest) each =
    let first : failed s ≡ failed_of k faults = each 0 s refl ∙ ap (λ n. failed_of n faults) (let e : k + 0 ≡ k = omega arith in e) in
    let others = failures_from (k + 1) faults rest (λ i seat at. each (suc i) seat at ∙ ap (λ n. failed_of n faults) (let e : k + suc i ≡ (k + 1) + i = omega arith in e)) in
    let cons = sum_by-cons failed s rest in
    let split = one_number k faults in
    omega arith

all_failures : (faults : List ℕ) (list : List SeatFacts) → ((i : ℕ) (seat : SeatFacts) → slice_get list i ≡ Some seat → failed seat ≡ failed_of i faults) → sum_by failed list ≤ length faults
all_failures faults list each =
    let a = failures_from 0 faults list (λ i seat at. each i seat at ∙ ap (λ n. failed_of n faults) (let e : i ≡ 0 + i = omega arith in e)) in
    let b = at_most_all 0 faults in
    omega arith

fewer_counted : (opened m n count : ℕ) → m ≤ n → AreCounted opened n count → AreCounted opened m count
fewer_counted opened m n count le counted = grind (arith, common_steps)

-- ---- the seats of a desk, of which the first was joined by the others

there_at : (list : List SeatFacts) (i : ℕ) → i < length list → (seat : SeatFacts) × (slice_get list i ≡ Some seat)
there_at [] i below = absurd (omega arith)
there_at (s ∷ list) zero below = (s, refl)
there_at (s ∷ list) (suc i) below = there_at list i (omega arith)

holds_at : (P : SeatFacts → Type 0) (list : List SeatFacts) (i : ℕ) (seat : SeatFacts) → All P list → slice_get list i ≡ Some seat → P seat
holds_at P [] i seat all at = absurd (cc)
holds_at P (s ∷ list) zero seat all at = subst P (let e : s ≡ seat = cc in e) (All-head P s list all)
holds_at P (s ∷ list) (suc i) seat all at = holds_at P list i seat (All-tail P s list all) at

-- rows that are told are the deeds
told : (b : BookFacts) → IsBook b → is_some b.rows ≡ true → b.rows ≡ Some b.deeds
told b book some = by_rows b.rows some book.rows
  where
    by_rows : (rows : Option (List Deed)) → is_some rows ≡ true → b.rows ≡ option_map (λ rows. b.deeds) rows → b.rows ≡ Some b.deeds
    by_rows (Some rows) some is = is
    by_rows None some is = absurd (true≢false (sym some))

module _ (desk : DeskFacts) (first : SeatFacts) (others list : List SeatFacts) (n : ℕ) (place : TableId) (v w : SeatView)
    (parts : list ≡ first ∷ others) (whole : AreAllSeats desk list) (first_is : first ≡ seat_of place v) (sits : IsSeatView n v) (joined : IsJoined v w) (noted : All (λ s. Contains w.joined (seat_note s)) others) where
  first_at : slice_get list 0 ≡ Some first
  first_at = ap (λ xs. slice_get xs 0) parts

  other_at : (i : ℕ) (seat : SeatFacts) → slice_get list (suc i) ≡ Some seat → slice_get others i ≡ Some seat
  other_at i seat at = sym (ap (λ xs. slice_get xs (suc i)) parts) ∙ at

  first_number : v.number ≡ 0
  first_number = ap (λ (s : SeatFacts). s.number) (sym first_is) ∙ whole.numbered 0 first first_at

  desk_is : desk_facts place v.about ≡ desk
  desk_is = ap (λ (s : SeatFacts). s.desk) (sym first_is) ∙ whole.of_desk 0 first first_at

  joined_desk : desk_facts place w.about ≡ desk
  joined_desk = ap (desk_facts place) joined.about ∙ desk_is

  given_all : w.given ≡ desk.seats
  given_all = joined.given ∙ (sits.given first_number ∙ ap (λ (d : DeskFacts). d.seats) desk_is)

  pub all_noted : AllNoted w
  all_noted zero above below = absurd (omega arith)
  all_noted (suc i) above below =
      let count = whole.count in
      let given = given_all in
      let s = there_at list (suc i) (omega arith) in
      (seat_note s.0, holds_at (λ s. Contains w.joined (seat_note s)) others i s.0 noted (other_at i s.0 s.1), whole.numbered (suc i) s.0 s.1)

  module _ (b : OpenBookFacts) (last : IsLast w b) where
    base_is : w.about.base ≡ desk.base
    base_is = ap (λ (d : DeskFacts). d.base) joined_desk

    -- the first as it was handed in, of whose own entries nothing was lost
    first_seen : HasSeen desk.base b.book.deeds b.faults 0 v.seen v.faults
    first_seen =
        let base : desk.base ≡ v.about.base = ap (λ (d : DeskFacts). d.base) (sym desk_is) in
        record {
          seen = prefix_on v.seen w.seen b.book.deeds joined.seen last.own.seen;
          mine = ap (λ k. mine_of k 0 v.seen) base
              ∙ (ap (λ k. mine_of v.about.base k v.seen) (sym first_number) ∙ (sym sits.own.mine ∙ (sym joined.mine ∙ (last.mine ∙ ap (λ k. mine_of k 0 b.book.deeds) base_is))));
          faults = prefix_on v.faults w.faults b.faults joined.faults last.own.faults;
          failed = ap (λ k. failed_of k v.faults) (sym first_number) ∙ (sym sits.own.failed ∙ (sym joined.failed ∙ last.failed));
        }

    has_seen : (i : ℕ) (seat : SeatFacts) → slice_get list i ≡ Some seat → HasSeen desk.base b.book.deeds b.faults i seat.seen seat.faults
    has_seen zero seat at =
        let is : seat ≡ seat_of place v = (let e : Some seat ≡ Some first = sym at ∙ first_at in let f : seat ≡ first = cc in f) ∙ first_is in
        subst (λ (s : SeatFacts). HasSeen desk.base b.book.deeds b.faults 0 s.seen s.faults) (sym is) first_seen
    has_seen (suc i) seat at =
        let there = holds_at (λ s. Contains w.joined (seat_note s)) others i seat noted (other_at i seat at) in
        let seen = All-contains (λ (note : JoinedSeat). HasSeen w.about.base b.book.deeds b.faults note.number note.seen note.faults) w.joined (seat_note seat) last.noted there in
        subst (λ k. HasSeen desk.base b.book.deeds b.faults k seat.seen seat.faults) (whole.numbered (suc i) seat at) (subst (λ k. HasSeen k b.book.deeds b.faults seat.number seat.seen seat.faults) base_is seen)

    pub finished : IsBook b.book → AreCounted b.opened (length b.faults) b.book.faults → IsFinished desk list b.book
    finished book counted =
        let opened : b.opened ≡ desk.opened = last.opened ∙ ap (λ (d : DeskFacts). d.opened) joined_desk in
        record {
          limit = last.limit ∙ ap (λ (d : DeskFacts). d.limit) joined_desk;
          rows = λ tells. told b.book book (last.tells ∙ (ap (λ (d : DeskFacts). d.tells) joined_desk ∙ tells));
          each = λ i seat at.
              let has = has_seen i seat at in
              let number = whole.numbered i seat at in
              let base : seat.desk.base ≡ desk.base = ap (λ (d : DeskFacts). d.base) (whole.of_desk i seat at) in
              record {
                seen = has.seen;
                own = subst (λ k. mine_of k seat.number b.book.deeds ≡ mine_of k seat.number seat.seen) (sym base) (subst (λ k. mine_of desk.base k b.book.deeds ≡ mine_of desk.base k seat.seen) (sym number) (sym has.mine));
              };
          by_seats = subst (λ k. All (λ (d : Deed). d.by < k) (drop desk.base b.book.deeds)) given_all (subst (λ k. All (λ (d : Deed). d.by < w.given) (drop k b.book.deeds)) base_is last.by_seats);
          counted = fewer_counted desk.opened (sum_by failed list) (length b.faults) b.book.faults
              (all_failures b.faults list (λ i seat at. ap (λ k. failed_of k seat.faults) (whole.numbered i seat at) ∙ (has_seen i seat at).failed))
              (subst (λ k. AreCounted k (length b.faults) b.book.faults) opened counted);
        }

-- a list whose first was removed
pub first_removed : (xs ys : List SeatFacts) (x : SeatFacts) → 0 < length xs → x ≡ slice_index_or xs 0 x → ys ≡ remove xs 0 → xs ≡ x ∷ ys
first_removed [] ys x some first rest = absurd (omega arith)
first_removed (s ∷ xs) ys x some first rest = ap (λ (y : SeatFacts). y ∷ xs) (sym first) ∙ ap (λ zs. x ∷ zs) (sym rest)
