-- Of two beginnings of one list the longer.
use Rattle.std.proofs.Common.{◌≡◌, ◌+◌, ◌≤◌, ◌==◌, ℕ, zero, suc, List, [], ◌∷◌, ◌++◌, length, Bool, refl, sym, ap, ◌∙◌, subst, arith, length-append, append-nil, append_assoc}
use Rattle.std.specs.Prelude.{drop, max}
use Rattle.std.specs.List.{filter}
use Rattle.std.proofs.Math.Seq.{drop-nil}
use Rattle.std.proofs.lemmas.List.Elements.{filter-append}
use mathlib.Core.List.{IsPrefix}
use Rattle.desk_outside.specs.declared.deed.Deed.{Deed}
use Rattle.shared_desk.specs.Turns.{HasSeen, longer}

module _ {X : Type 0} where
  pub prefix_on : (xs ys zs : List X) → IsPrefix xs ys → IsPrefix ys zs → IsPrefix xs zs
  prefix_on xs ys zs p q = (p.0 ++ q.0, sym (append_assoc xs p.0 q.0) ∙ (ap (λ (l : List X). l ++ q.0) p.1 ∙ q.1))

  pub longer_first : (xs ys : List X) → IsPrefix xs (longer xs ys)
  longer_first xs ys = (drop (length xs) ys, refl)

  tails : (x y : X) (xs ys : List X) → x ∷ xs ≡ y ∷ ys → xs ≡ ys
  tails x y xs ys e = cc

  -- it begins the same list
  pub longer_begins : (xs ys zs : List X) → IsPrefix xs zs → IsPrefix ys zs → IsPrefix (longer xs ys) zs
  longer_begins [] ys zs p q = q
  longer_begins (x ∷ xs) [] zs p q = subst (λ l. IsPrefix l zs) (sym (append-nil (x ∷ xs))) p
  longer_begins (x ∷ xs) (y ∷ ys) zs p q =
      let rest = longer_begins xs ys (xs ++ p.0) (p.0, refl) (q.0, tails y x (ys ++ q.0) (xs ++ p.0) (q.1 ∙ sym p.1)) in
      (rest.0, ap (λ (l : List X). x ∷ l) rest.1 ∙ p.1)

  -- and is as long as the longer of them
  pub longer_length : (xs ys : List X) → length (longer xs ys) ≡ max (length xs) (length ys)
  longer_length [] ys = omega arith
  longer_length (x ∷ xs) [] = let e = ap length (append-nil (x ∷ xs)) in omega (arith, e)
  longer_length (x ∷ xs) (y ∷ ys) = let ih = longer_length xs ys in omega (arith, ih)

  -- ---- what is kept of a list between two that keep the same

  prefix_drop : (n : ℕ) (xs ys : List X) → IsPrefix xs ys → IsPrefix (drop n xs) (drop n ys)
  prefix_drop zero xs ys p = p
  prefix_drop (suc n) [] ys p = (drop (suc n) ys, refl)
  prefix_drop (suc n) (x ∷ xs) [] p = let e = p.1 in absurd (cc)
  prefix_drop (suc n) (x ∷ xs) (y ∷ ys) p = prefix_drop n xs ys (p.0, tails x y (xs ++ p.0) ys p.1)

  kept_more : (f : X → Bool) (xs ys : List X) (p : IsPrefix xs ys) → filter f ys ≡ filter f xs ++ filter f p.0
  kept_more f xs ys p = ap (filter f) (sym p.1) ∙ filter-append f xs p.0

  count_more : (f : X → Bool) (xs ys : List X) (p : IsPrefix xs ys) → length (filter f ys) ≡ length (filter f xs) + length (filter f p.0)
  count_more f xs ys p = ap length (kept_more f xs ys p) ∙ length-append (filter f xs) (filter f p.0)

  no_items : (l : List X) → length l ≡ 0 → l ≡ []
  no_items [] e = refl
  no_items (x ∷ l) e = absurd (omega arith)

  kept_between : (f : X → Bool) (xs ys zs : List X) → IsPrefix xs ys → IsPrefix ys zs → filter f xs ≡ filter f zs → filter f ys ≡ filter f zs
  kept_between f xs ys zs p q same =
      let first = count_more f xs ys p in
      let second = count_more f ys zs q in
      let lengths = ap length same in
      kept_more f xs ys p ∙ (ap (λ (l : List X). filter f xs ++ l) (no_items (filter f p.0) (omega arith)) ∙ (append-nil (filter f xs) ∙ same))

  pub count_between : (f : X → Bool) (xs ys zs : List X) → IsPrefix xs ys → IsPrefix ys zs → length (filter f xs) ≡ length (filter f zs) → length (filter f ys) ≡ length (filter f zs)
  count_between f xs ys zs p q same =
      let first = count_more f xs ys p in
      let second = count_more f ys zs q in
      omega arith

  pub kept_between_from : (n : ℕ) (f : X → Bool) (xs ys zs : List X) → IsPrefix xs ys → IsPrefix ys zs → filter f (drop n xs) ≡ filter f (drop n zs) → filter f (drop n ys) ≡ filter f (drop n zs)
  kept_between_from n f xs ys zs p q same = kept_between f (drop n xs) (drop n ys) (drop n zs) (prefix_drop n xs ys p) (prefix_drop n ys zs q) same

-- a seat has seen what another has seen too
pub seen_longer : (base : ℕ) (history : List Deed) (faults : List ℕ) (n : ℕ) (seen more : List Deed) (seen_faults more_faults : List ℕ) → HasSeen base history faults n seen seen_faults
    → IsPrefix more history → IsPrefix more_faults faults → HasSeen base history faults n (longer seen more) (longer seen_faults more_faults)
seen_longer base history faults n seen more seen_faults more_faults has p q =
    let deeds = longer_begins seen more history has.seen p in
    let failures = longer_begins seen_faults more_faults faults has.faults q in
    record {
      seen = deeds;
      mine = kept_between_from base (λ (d : Deed). d.by == n) seen (longer seen more) history (longer_first seen more) deeds has.mine;
      faults = failures;
      failed = count_between (λ (k : ℕ). k == n) seen_faults (longer seen_faults more_faults) faults (longer_first seen_faults more_faults) failures has.failed;
    }
