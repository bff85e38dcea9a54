-- What a seat has during its turn and after it.
use Rattle.std.proofs.Common.{◌≡◌, ℕ, List, [], ◌∷◌, Bool, true, false, Some, None, true≢false, refl, sym, ap, ◌∙◌, subst, inl, inr}
use Rattle.std.specs.Prelude.{is_some}
use Rattle.atomic_table.specs.Table.{Me, rest}
use Rattle.desk_outside.specs.declared.deed.Deed.{Deed}
use Rattle.shared_desk.specs.declared.turns.SeatView.{SeatView}
use Rattle.shared_desk.specs.OpenBooks.{OpenBookFacts}
use Rattle.shared_desk.specs.Turns.{Slot, HasLists, TakesTurn, at_turn, with_lists, caught_up, AddsOne}
use Rattle.shared_desk.specs.Stages.{IsIdle, IsWaiting, KnowsOwn, HasTurn, HoldsBook, Took}
use Rattle.std.specs.Bool.{OnTrue, OnFalse}

-- a seat that drew a ticket waits with it
pub drew : (old new : Me Slot SeatView) (ticket : ℕ) → IsIdle old → new ≡ (at_turn old.0 true ticket false, []) → IsWaiting ticket new
drew old new ticket idle is =
    subst (λ (m : Me Slot SeatView). IsWaiting ticket m) (sym is) record { spent = idle.view.spent; waits = refl; holds = refl; ticket_is = refl; hand = refl }

-- one list of one, taken apart
pub same_first : (x y : ℕ × Slot) (xs ys : List (ℕ × Slot)) → x ∷ xs ≡ y ∷ ys → x ≡ y
same_first x y xs ys e = cc

-- the book lies in the seat's place again
pub put_back : (old new : Me Slot SeatView) (b : OpenBookFacts) → HasTurn old → new ≡ (old.0, (0, Some b) ∷ rest old.1) → HoldsBook new b
put_back old new b turn is =
    let v : new.0 ≡ old.0 = ap (λ (m : Me Slot SeatView). m.0) is in record {
      own = subst KnowsOwn (sym v) turn.own;
      spent = ap (λ (u : SeatView). u.spent) v ∙ turn.spent;
      waits = ap (λ (u : SeatView). u.waits) v ∙ turn.waits;
      holds = ap (λ (u : SeatView). u.holds) v ∙ turn.holds;
      hand = ap (λ (m : Me Slot SeatView). m.1) is ∙ ap (λ xs. (0, Some b) ∷ xs) (ap rest turn.hand);
    }

pub on_true : (b : Bool) (P : Type 0) → b ≡ true → OnTrue b P → P
on_true true P is p = p
on_true false P is p = absurd (true≢false (sym is))

pub on_false : (b : Bool) (P : Type 0) → b ≡ false → OnFalse b P → P
on_false false P is p = p
on_false true P is p = absurd (true≢false is)

-- what a change adds stands in one more deed or one more fault, and leaves the rest
adds_about : (v : SeatView) (b : OpenBookFacts) → AddsOne v b → (b.opened ≡ v.about.opened) × (b.book.limit ≡ v.about.limit) × (is_some b.book.rows ≡ v.about.tells)
adds_about v b (inl deed) = (deed.lists.opened, deed.lists.limit, deed.lists.tells)
adds_about v b (inr fault) = (fault.opened, fault.limit, fault.tells)

-- the book in hand counts
pub counted_again : (old new : Me Slot SeatView) (b : OpenBookFacts) → HoldsBook old b → AddsOne old.0 b → new ≡ (caught_up old.0 old.1, old.1)
    → (new ≡ (with_lists old.0 b.book.deeds b.faults, (0, Some b) ∷ [])) × HoldsBook new b × HasLists new.0.about new.0.seen new.0.faults b
counted_again old new b turn adds is =
    let e : new ≡ (with_lists old.0 b.book.deeds b.faults, (0, Some b) ∷ []) = is ∙ ap (λ (xs : List (ℕ × Slot)). (caught_up old.0 xs, xs)) turn.hand in
    let both = adds_about old.0 b adds in (
      e,
      subst (λ (m : Me Slot SeatView). HoldsBook m b) (sym e) record { own = record { mine = refl; failed = refl }; spent = turn.spent; waits = turn.waits; holds = turn.holds; hand = refl },
      subst (λ (m : Me Slot SeatView). HasLists m.0.about m.0.seen m.0.faults b) (sym e) record { deeds = refl; faults = refl; opened = both.0; limit = both.1; tells = both.2 },
    )

pub same_view : (old : SeatView) (new : Me Slot SeatView) (xs : List (ℕ × Slot)) → new ≡ (old, xs) → new.0 ≡ old
same_view old new xs is = ap (λ (m : Me Slot SeatView). m.0) is

pub same_some : (b c : OpenBookFacts) → Some b ≡ Some c → b ≡ c
same_some b c e = cc

-- a view that has seen these lists already
seen_already : (v : SeatView) → KnowsOwn v → with_lists v v.seen v.faults ≡ v
seen_already v own =
    ap (λ (p : List Deed × ℕ). record {
      about = v.about;
      number = v.number;
      seen = v.seen;
      faults = v.faults;
      mine = p.0;
      failed = p.1;
      waits = v.waits;
      ticket = v.ticket;
      holds = v.holds;
      spent = v.spent;
      given = v.given;
      joined = v.joined;
    }) (λ i. ((sym own.mine) i, (sym own.failed) i))

pub seen_same : (v : SeatView) (b : OpenBookFacts) → KnowsOwn v → HasLists v.about v.seen v.faults b → with_lists v b.book.deeds b.faults ≡ v
seen_same v b own lists = ap (λ (ds : List Deed). with_lists v ds b.faults) lists.deeds ∙ (ap (with_lists v v.seen) lists.faults ∙ seen_already v own)
