-- The numbers of the seats in use and of those that were noted.
use Rattle.std.proofs.Common.{◌≡◌, ◌≢◌, ◌⊎◌, ◌+◌, ◌<◌, ℕ, zero, suc, List, [], ◌∷◌, ◌++◌, length, Bool, true, false, true≢false, refl, sym, ap, ◌∙◌, subst, inl, inr, arith}
use Rattle.std.specs.Prelude.{map, if◌then◌else◌, All, AllPairs}
use Rattle.std.proofs.lemmas.List.{map-append}
use Rattle.std.proofs.lemmas.List.Elements.{All-weaker, All-cons, All-map, All-get_or}
use Rattle.std.proofs.lemmas.List.Kept.{AllPairs-cons}
use Rattle.std.proofs.lemmas.List.Quantifiers.{all_pairs_push}
use mathlib.Core.Option as found
use lib.ListN.{get_elem?}
use Rattle.desk_outside.specs.declared.deed.Deed.{Deed}
use Rattle.shared_desk.specs.declared.turns.DeskTerms.{DeskTerms}
use Rattle.shared_desk.specs.declared.turns.JoinedSeat.{JoinedSeat}
use Rattle.shared_desk.specs.declared.turns.SeatView.{SeatView}
use Rattle.shared_desk.specs.Turns.{IsSpent, IsSeat, IsNoted, IsFirst, numbers_of}
use Rattle.shared_desk.proofs.Lists.{one_there, at_below}

-- a fact of the rest where the view is spent, and of all where it is in use
by_use : (P : List ℕ → Type 0) (b : Bool) (n : ℕ) (ns : List ℕ) → (b ≡ true → P ns) → (b ≡ false → P (n ∷ ns)) → P (if b then ns else n ∷ ns)
by_use P true n ns spent live = spent refl
by_use P false n ns spent live = live refl

numbers_all : (P : ℕ → Type 0) (views : List SeatView) (notes : List JoinedSeat) → ((i : ℕ) (v : SeatView) → get_elem? views i ≡ found.some v → v.spent ≡ false → P v.number) → All (λ (note : JoinedSeat). P note.number) notes
    → All P (numbers_of views notes)
numbers_all P [] notes live noted = All-map P (λ (note : JoinedSeat). note.number) notes noted
numbers_all P (v ∷ vs) notes live noted =
    let rest = numbers_all P vs notes (λ i u at in_use. live (suc i) u at in_use) noted in
    by_use (All P) v.spent v.number (numbers_of vs notes) (λ _. rest) (λ in_use. All-cons P v.number (numbers_of vs notes) (live 0 v refl in_use) rest)

-- the numbers differ where those of the notes do, and each seat in use stands at the place of its number
numbers_differ : (k : ℕ) (views : List SeatView) (notes : List JoinedSeat) → ((i : ℕ) (v : SeatView) → get_elem? views i ≡ found.some v → v.spent ≡ false → v.number ≡ k + i)
    → ((i : ℕ) (v : SeatView) → get_elem? views i ≡ found.some v → v.spent ≡ false → All (λ (note : JoinedSeat). v.number ≢ note.number) notes)
    → AllPairs (λ m n. m ≢ n) (map (λ (note : JoinedSeat). note.number) notes) → AllPairs (λ m n. m ≢ n) (numbers_of views notes)
numbers_differ k [] notes places apart noted = noted
numbers_differ k (v ∷ vs) notes places apart noted =
    let rest = numbers_differ (k + 1) vs notes (λ i u at live. places (suc i) u at live ∙ (let e : k + suc i ≡ (k + 1) + i = omega arith in e)) (λ i u at live. apart (suc i) u at live) noted in
    by_use (AllPairs (λ m n. m ≢ n)) v.spent v.number (numbers_of vs notes) (λ _. rest)
    (λ in_use. AllPairs-cons (λ m n. m ≢ n) v.number (numbers_of vs notes)
    (numbers_all (λ n. v.number ≢ n) vs notes (λ i u at live. let here = places 0 v refl in_use in let there = places (suc i) u at live in λ same. omega arith) (apart 0 v refl in_use))
    rest)

rest_differs : (b : Bool) (n : ℕ) (ns : List ℕ) → AllPairs (λ x y. x ≢ y) (if b then ns else n ∷ ns) → AllPairs (λ x y. x ≢ y) ns
rest_differs true n ns pairs = pairs
rest_differs false n ns pairs = λ i j d below short. pairs (suc i) (suc j) d (omega arith) (omega arith)

notes_differ : (views : List SeatView) (notes : List JoinedSeat) → AllPairs (λ m n. m ≢ n) (numbers_of views notes) → AllPairs (λ m n. m ≢ n) (map (λ (note : JoinedSeat). note.number) notes)
notes_differ [] notes pairs = pairs
notes_differ (v ∷ vs) notes pairs = notes_differ vs notes (rest_differs v.spent v.number (numbers_of vs notes) pairs)

module _ (about : DeskTerms) (history : List Deed) (faults : List ℕ) (views : List SeatView) where
  -- what the first seat knows, where the numbers of those that it noted differ
  pub is_first_seat : (v : SeatView) → v.spent ≡ false → v.given ≡ length views → ((i : ℕ) (u : SeatView) → get_elem? views i ≡ found.some u → IsSpent u ⊎ IsSeat about history faults i u)
      → All (IsNoted about.base history faults views) v.joined → AllPairs (λ m n. m ≢ n) (map (λ (note : JoinedSeat). note.number) v.joined) → IsFirst about history faults views v
  is_first_seat v live given each joined differ =
      let places : (i : ℕ) (u : SeatView) → get_elem? views i ≡ found.some u → u.spent ≡ false → u.number ≡ i = λ i u at in_use.
      elim (each i u at) [
        | inl spent ↦ absurd (true≢false (sym spent.spent ∙ in_use))
        | inr seat ↦ seat.number
      ] in
      record {
        spent = live;
        given = given;
        joined = joined;
        differ = numbers_differ 0 views v.joined (λ i u at in_use. places i u at in_use ∙ (let e : i ≡ 0 + i = omega arith in e))
            (λ i u at in_use. All-weaker (IsNoted about.base history faults views) (λ (note : JoinedSeat). u.number ≢ note.number)
            (λ note noted same. true≢false (sym noted.spent ∙ (ap (λ (z : SeatView). z.spent) (one_there views i noted.view u (ap (get_elem? views) (sym (places i u at in_use) ∙ same) ∙ noted.is_it) at) ∙ in_use))) v.joined joined)
            differ;
        given_out = subst (λ k. All (λ n. n < k) (numbers_of views v.joined)) (sym given)
            (numbers_all (λ n. n < length views) views v.joined (λ i u at in_use. subst (λ n. n < length views) (sym (places i u at in_use)) (at_below views i u at))
            (All-weaker (IsNoted about.base history faults views) (λ (note : JoinedSeat). note.number < length views) (λ note noted. at_below views note.number noted.view noted.is_it) v.joined joined));
      }

  -- the numbers of those that the first seat noted
  pub noted_differ : (v : SeatView) → IsFirst about history faults views v → AllPairs (λ m n. m ≢ n) (map (λ (note : JoinedSeat). note.number) v.joined)
  noted_differ v first = notes_differ views v.joined first.differ

-- one more note
pub note_differs : (notes : List JoinedSeat) (note : JoinedSeat) → AllPairs (λ m n. m ≢ n) (map (λ (x : JoinedSeat). x.number) notes) → All (λ (x : JoinedSeat). x.number ≢ note.number) notes
    → AllPairs (λ m n. m ≢ n) (map (λ (x : JoinedSeat). x.number) (notes ++ note ∷ []))
note_differs notes note pairs apart =
    let Differ : ℕ → ℕ → Type 0 = λ m n. m ≢ n in
    let ns = map (λ (x : JoinedSeat). x.number) notes in
    subst (AllPairs Differ) (sym (map-append (λ (x : JoinedSeat). x.number) notes (note ∷ [])))
    (all_pairs_push Differ ns note.number pairs (λ k d below. All-get_or (λ n. n ≢ note.number) ns k d below (All-map (λ n. n ≢ note.number) (λ (x : JoinedSeat). x.number) notes apart)))
