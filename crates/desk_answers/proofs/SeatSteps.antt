-- What a seat did, one thing after another.
use Rattle.std.proofs.Common.{◌≡◌, ℕ, ◌+◌, ◌==◌, List, [], ◌++◌, filter, refl, sym, ap, subst, ◌∙◌, arith, append_assoc, append-nil}
use Rattle.std.proofs.Math.Seq.{drop-append_seam, drop-length}
use Rattle.std.proofs.lemmas.List.Elements.{filter-append}
use Rattle.desk_outside.specs.declared.deed.Deed.{Deed}
use Rattle.desk_answers.specs.Seats.{IsPrefix, GrewBy, SeatFacts, gained, Did}

-- ---- prefixes

pub prefix_same : {X : Type 0} (xs : List X) → IsPrefix xs xs
prefix_same xs = ([], sym (append-nil xs))

pub prefix_on : {X : Type 0} (a b c : List X) → IsPrefix a b → IsPrefix b c → IsPrefix a c
prefix_on a b c (m, e) (n, f) = (m ++ n, f ∙ ap (λ l. l ++ n) e ∙ append_assoc a m n)

-- ---- the deeds of a number

gained_behind : (number : ℕ) (old more : List Deed) → gained number old (old ++ more) ≡ filter (λ deed. deed.by == number) more
gained_behind number old more = ap (filter (λ deed. deed.by == number)) (drop-append_seam old more)

pub gained_none : (number : ℕ) (old : List Deed) → gained number old old ≡ []
gained_none number old = ap (filter (λ deed. deed.by == number)) (drop-length old)

pub gained_on : (number : ℕ) (a b c : List Deed) → IsPrefix a b → IsPrefix b c → gained number a c ≡ gained number a b ++ gained number b c
gained_on number a b c (m, e) (n, f) =
    let whole : c ≡ a ++ (m ++ n) = f ∙ ap (λ l. l ++ n) e ∙ append_assoc a m n in
    let first : gained number a b ≡ filter (λ deed. deed.by == number) m = ap (gained number a) e ∙ gained_behind number a m in
    let second : gained number b c ≡ filter (λ deed. deed.by == number) n = ap (gained number b) f ∙ gained_behind number b n in
    let both : gained number a c ≡ filter (λ deed. deed.by == number) (m ++ n) = ap (gained number a) whole ∙ gained_behind number a (m ++ n) in
    both ∙ filter-append (λ (deed : Deed). deed.by == number) m n ∙ ap (λ l. l ++ filter (λ deed. deed.by == number) n) (sym first) ∙ ap (λ l. gained number a b ++ l) (sym second)

-- ---- failures

pub grew_none : (number : ℕ) (faults : List ℕ) → GrewBy number 0 faults faults
grew_none number faults = record { prefix = prefix_same faults; told = omega arith }

pub grew_on : (number j k : ℕ) (a b c : List ℕ) → GrewBy number j a b → GrewBy number k b c → GrewBy number (j + k) a c
grew_on number j k a b c p q = record { prefix = prefix_on a b c p.prefix q.prefix; told = omega (arith, p.told, q.told) }

-- ---- what was done

pub did_nothing : (s : SeatFacts) → Did [] 0 s s
did_nothing s = record {
  number = refl;
  limit = refl;
  seen = prefix_same s.seen;
  gained = gained_none s.number s.seen;
  faults = grew_none s.number s.faults;
  legal = λ is. is;
}

pub did_on : (xs ys : List Deed) (j k : ℕ) (a b c : SeatFacts) → Did xs j a b → Did ys k b c → Did (xs ++ ys) (j + k) a c
did_on xs ys j k a b c p q =
    let later : gained a.number b.seen c.seen ≡ ys = ap (λ (n : ℕ). gained n b.seen c.seen) (sym p.number) ∙ q.gained in
    record {
      number = q.number ∙ p.number;
      limit = q.limit ∙ p.limit;
      seen = prefix_on a.seen b.seen c.seen p.seen q.seen;
      gained = gained_on a.number a.seen b.seen c.seen p.seen q.seen ∙ ap (λ l. l ++ gained a.number b.seen c.seen) p.gained ∙ ap (λ l. xs ++ l) later;
      faults = grew_on a.number j k a.faults b.faults c.faults p.faults (subst (λ n. GrewBy n k b.faults c.faults) p.number q.faults);
      legal = λ is. q.legal (p.legal is);
    }

pub did_after_nothing : (xs : List Deed) (j : ℕ) (a b c : SeatFacts) → Did [] 0 a b → Did xs j b c → Did xs j a c
did_after_nothing xs j a b c p q = subst (λ n. Did xs n a c) (omega arith) (did_on [] xs 0 j a b c p q)
