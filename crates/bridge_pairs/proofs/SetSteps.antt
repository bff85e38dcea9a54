-- One more pair in a set of net numbers.
use Rattle.std.proofs.Common.{◌≡◌, ℕ, min, max, Bool, true, false, cond, eqb, ◌||◌, ◌&&◌, List, [], ◌∷◌, ◌++◌, refl, sym, ◌∙◌, inl, inr, arith}
use Rattle.std.specs.Ordering.{is_eq}
use Rattle.std.specs.BTreeSet.{BTreeSet, contains, Updates}
use Rattle.std.specs.List.{list_any}
use Rattle.std.proofs.lemmas.Bool.{cases_eq, eqb-true, eq-eqb, or_cases, or_left, or_right, and_parts, and_from}
use Rattle.std.proofs.lemmas.Bool.Decides.{nat_tests}
use Rattle.std.proofs.lemmas.List.Folds.{list_any-append}
use Rattle.scan_model.specs.declared.parts.Pair.{Pair}
use Rattle.scan_model.specs.ScanTest.{same_pair}
use Rattle.scan_model.proofs.FanSweeps.{same_answer}
use Rattle.bridge_pairs.specs.PairText.{is_named}
use Rattle.bridge_pairs.specs.PairSets.{pair_cmp, key_of, HasPairs}

pair_cmp_eq : (a b x y : ℕ) → is_eq (pair_cmp (a, b) (x, y)) ≡ (eqb a x && eqb b y)
pair_cmp_eq a b x y = grind (arith, nat_tests)

-- Two pairs have one key exactly where they have the same two nets
same_key : (p q : Pair) → is_eq (pair_cmp (key_of p) (key_of q)) ≡ same_pair p q
same_key p q = pair_cmp_eq (min p.a p.b) (max p.a p.b) (min q.a q.b) (max q.a q.b) ∙ same_answer (eqb (min p.a p.b) (min q.a q.b) && eqb (max p.a p.b) (max q.a q.b)) (same_pair p q) to from
  where
    to : (eqb (min p.a p.b) (min q.a q.b) && eqb (max p.a p.b) (max q.a q.b)) ≡ true → same_pair p q ≡ true
    to e =
        let both = and_parts (eqb (min p.a p.b) (min q.a q.b)) (eqb (max p.a p.b) (max q.a q.b)) e in
        let low : min p.a p.b ≡ min q.a q.b = eqb-true (min p.a p.b) (min q.a q.b) both.0 in
        let high : max p.a p.b ≡ max q.a q.b = eqb-true (max p.a p.b) (max q.a q.b) both.1 in
        elim (cases_eq p.a q.a) [
          | inl same ↦ or_left (eqb p.a q.a && eqb p.b q.b) (eqb p.a q.b && eqb p.b q.a) (and_from (eqb p.a q.a) (eqb p.b q.b) (eq-eqb p.a q.a same) (eq-eqb p.b q.b (omega arith)))
          | inr other ↦ or_right (eqb p.a q.a && eqb p.b q.b) (eqb p.a q.b && eqb p.b q.a) (and_from (eqb p.a q.b) (eqb p.b q.a) (eq-eqb p.a q.b (omega arith)) (eq-eqb p.b q.a (omega arith)))
        ]

    from : same_pair p q ≡ true → (eqb (min p.a p.b) (min q.a q.b) && eqb (max p.a p.b) (max q.a q.b)) ≡ true
    from e = elim (or_cases (eqb p.a q.a && eqb p.b q.b) (eqb p.a q.b && eqb p.b q.a) e) [
      | inl straight ↦
          let both = and_parts (eqb p.a q.a) (eqb p.b q.b) straight in
          let first : p.a ≡ q.a = eqb-true p.a q.a both.0 in
          let second : p.b ≡ q.b = eqb-true p.b q.b both.1 in
          and_from (eqb (min p.a p.b) (min q.a q.b)) (eqb (max p.a p.b) (max q.a q.b)) (eq-eqb (min p.a p.b) (min q.a q.b) (omega arith)) (eq-eqb (max p.a p.b) (max q.a q.b) (omega arith))
      | inr crossed ↦
          let both = and_parts (eqb p.a q.b) (eqb p.b q.a) crossed in
          let first : p.a ≡ q.b = eqb-true p.a q.b both.0 in
          let second : p.b ≡ q.a = eqb-true p.b q.a both.1 in
          and_from (eqb (min p.a p.b) (min q.a q.b)) (eqb (max p.a p.b) (max q.a q.b)) (eq-eqb (min p.a p.b) (min q.a q.b) (omega arith)) (eq-eqb (max p.a p.b) (max q.a q.b) (omega arith))
    ]

named_push : (pairs : List Pair) (p q : Pair) → is_named (pairs ++ p ∷ []) q ≡ (same_pair p q || is_named pairs q)
named_push pairs p q = list_any-append (λ r. same_pair r q) pairs (p ∷ []) ∙ turned (list_any (λ r. same_pair r q) pairs) (same_pair p q)
  where
    turned : (a b : Bool) → (a || (b || false)) ≡ (b || a)
    turned true true = refl
    turned true false = refl
    turned false true = refl
    turned false false = refl

or_as_cond : (a b : Bool) → cond a true b ≡ (a || b)
or_as_cond true b = refl
or_as_cond false b = refl

pub HasPairs-push : (pairs : List Pair) (p : Pair) (old new : BTreeSet (ℕ × ℕ)) → HasPairs pairs old → Updates pair_cmp old new (key_of p) true → HasPairs (pairs ++ p ∷ []) new
HasPairs-push pairs p old new has updates q =
    updates.0 (key_of q)
    ∙ or_as_cond (is_eq (pair_cmp (key_of p) (key_of q))) (contains pair_cmp old (key_of q))
    ∙ rw (same_key p q, has q) (sym (named_push pairs p q))
