-- The table of a desk at its start.
use Rattle.std.proofs.Common.{◌≡◌, ◌⊎◌, ◌+◌, ◌%◌, ◌^◌, ◌<◌, ℕ, zero, suc, [], ◌∷◌, length, true, Some, true≢false, refl, sym, ap, ◌∙◌, subst, inl, inr, arith}
use Rattle.std.specs.Prelude.{All}
use Rattle.std.proofs.Math.Nat.{mod-eq_of_lt}
use Rattle.std.proofs.Math.Seq.{drop-length}
use Rattle.std.proofs.lemmas.List.Elements.{All-nil}
use mathlib.Core.Option as found
use mathlib.Core.Option.{some-injective, some-ne-none}
use lib.ListN.{get_elem?}
use Rattle.atomic_table.specs.Table.{opening}
use Rattle.desk_outside.specs.declared.deed.Deed.{Deed}
use Rattle.book.specs.LegalDeeds.{is_legal}
use Rattle.shared_desk.specs.declared.turns.SeatView.{SeatView}
use Rattle.shared_desk.specs.OpenBooks.{OpenBookFacts}
use Rattle.shared_desk.specs.Turns.{IsDeskTable, IsSpent, IsSeat, IsFirst, IsNoted, terms_of, first_view}
use Rattle.shared_desk.proofs.EntryLists.{seen_all}
use Rattle.shared_desk.proofs.Numbers.{is_first_seat}

one_only : (v u : SeatView) (i : ℕ) → get_elem? (v ∷ []) i ≡ found.some u → (i ≡ 0) × (v ≡ u)
one_only v u zero e = (refl, some-injective v u e)
one_only v u (suc i) e = absurd (some-ne-none u (sym e))

pub opens : (seats count : ℕ) (b : OpenBookFacts) → is_legal b.book.limit b.book.deeds ≡ true → b.faults ≡ [] → count ≡ length b.book.deeds → count < 2 ^ 64
    → IsDeskTable (terms_of seats b) (opening (count ∷ 0 ∷ 0 ∷ []) (Some b ∷ []) (first_view (terms_of seats b) b.book.deeds))
opens seats count b legal no_faults counted small =
    let about = terms_of seats b in
    let deeds = b.book.deeds in
    let v = first_view about deeds in
    let first_word : count ≡ (length deeds + 0) % 2 ^ 64 = sym (mod-eq_of_lt small) ∙ ap (λ (n : ℕ). n % 2 ^ 64) (let e : count ≡ length deeds + 0 = omega arith in e) in
    let seat : IsSeat about deeds [] 0 v = record { spent = refl; about = refl; number = refl; seen = seen_all (length deeds) deeds [] 0; mine = refl; failed = refl } in
    let each : (i : ℕ) (u : SeatView) → get_elem? (v ∷ []) i ≡ found.some u → IsSpent u ⊎ IsSeat about deeds [] i u =
    λ i u e. let one = one_only v u i e in inr (subst (IsSeat about deeds [] i) one.1 (subst (λ k. IsSeat about deeds [] k v) (sym one.0) seat)) in
    record {
      history = deeds;
      faults = [];
      queue = [];
      served = 0;
      words = ap (λ (n : ℕ). n ∷ 0 ∷ 0 ∷ []) first_word;
      lists = record {
        legal = legal;
        base = omega arith;
        by_seats = subst (All (λ (d : Deed). d.by < 1)) (sym (drop-length deeds)) (All-nil (λ (d : Deed). d.by < 1));
        of_seats = All-nil (λ (k : ℕ). k < 1);
      };
      seats = record {
        few = omega arith;
        each = each;
        first = λ u e. subst (IsFirst about deeds [] (v ∷ [])) (one_only v u 0 e).1
            (is_first_seat about deeds [] (v ∷ []) v refl refl each (All-nil (IsNoted (length deeds) deeds [] (v ∷ []))) (λ i j d below short. absurd (omega arith)));
      };
      order = record {
        counted = refl;
        at = λ k i e. absurd (cc);
        in_it = λ i u e t. absurd (true≢false (sym t ∙ ap (λ (z : SeatView). z.waits) (sym (one_only v u i e).1)));
      };
      turn = inl record {
        value = b;
        homes = refl;
        lists = record { deeds = refl; faults = no_faults; opened = refl; limit = refl; tells = refl };
        nobody = λ i u e. ap (λ (z : SeatView). z.holds) (sym (one_only v u i e).1);
      };
    }
