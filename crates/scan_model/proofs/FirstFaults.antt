-- A fault that the tables of a text find is its first fault, by the rules that its lines break.
use Rattle.std.proofs.Common.{◌≡◌, ℕ, ◌+◌, ◌-◌, ◌<◌, ◌≤◌, Bool, true, false, ◌&&◌, ◌||◌, List, [], ◌∷◌, ◌++◌, filter, Option, Some, None, eqb, ltb, refl, sym, ap, subst, ◌∙◌, arith}
use Rattle.std.specs.List.{list_any}
use Rattle.std.proofs.lemmas.Bool.{eq-eqb, eqb-true, ltb-true, ltb-false}
use Rattle.std.proofs.lemmas.List.Folds.{list_any-append}
use Rattle.scan_model.specs.TextFaults.{HasNoFault, IsFirstFault, broken_among, breaks, lowest, first_fault}
use Rattle.scan_model.proofs.FaultSteps.{IsFirst, fault_from-found, fault_from-clean}

-- the lowest rule that is broken, if one is
abbrev pub IsLowest : (ℕ → Bool) → Option ℕ → Type 0
IsLowest broken None = (rule : ℕ) → broken rule ≡ false
IsLowest broken (Some r) = (broken r ≡ true) × ((rule : ℕ) → broken rule ≡ true → r ≤ rule)

pub IsLowest-same : (p q : ℕ → Bool) (o : Option ℕ) → ((rule : ℕ) → p rule ≡ q rule) → IsLowest q o → IsLowest p o
IsLowest-same p q None same is = λ rule. same rule ∙ is rule
IsLowest-same p q (Some r) same is = (same r ∙ is.0, λ rule e. is.1 rule (sym (same rule) ∙ e))

-- ---- tables whose rules rise

abbrev pub rises_from : ℕ → List (ℕ × Bool) → Bool
rises_from r [] = true
rises_from r (s ∷ more) = ltb r s.0 && rises_from s.0 more

abbrev pub rises : List (ℕ × Bool) → Bool
rises [] = true
rises (r ∷ more) = rises_from r.0 more

and_left : (a b : Bool) → (a && b) ≡ true → a ≡ true
and_left true b e = refl
and_left false b e = absurd cc

and_right : (a b : Bool) → (a && b) ≡ true → b ≡ true
and_right true b e = e
and_right false b e = absurd cc

rises-tail : (r : ℕ) (more : List (ℕ × Bool)) → rises_from r more ≡ true → rises more ≡ true
rises-tail r [] e = refl
rises-tail r (s ∷ more) e = and_right (ltb r s.0) (rises_from s.0 more) e

-- all rules of a table that rises from r are above r
above : (r : ℕ) (table : List (ℕ × Bool)) → rises_from r table ≡ true → (rule : ℕ) → breaks table rule ≡ true → r < rule
above r [] e rule broken = absurd cc
above r (s ∷ more) e rule broken =
    let low : r < s.0 = ltb-true r s.0 (and_left (ltb r s.0) (rises_from s.0 more) e) in
    let more_above = above s.0 more (and_right (ltb r s.0) (rises_from s.0 more) e) rule in
    go (eqb s.0 rule) refl low more_above broken
  where
    go : (b : Bool) → eqb s.0 rule ≡ b → r < s.0 → (breaks more rule ≡ true → s.0 < rule) → breaks (s ∷ more) rule ≡ true → r < rule
    go true e low later broken = let same : s.0 ≡ rule = eqb-true s.0 rule e in omega arith
    go false e low later broken = let far : s.0 < rule = later (rw e at broken) in omega arith

skipped : (b x : Bool) → ((b && false) || x) ≡ x
skipped true x = refl
skipped false x = refl

-- the lowest rule of a table that rises is the lowest that it breaks
pub lowest_is : (table : List (ℕ × Bool)) → rises table ≡ true → IsLowest (breaks table) (lowest table)
lowest_is [] e = λ rule. refl
lowest_is ((r, false) ∷ more) e =
    IsLowest-same (breaks ((r, false) ∷ more)) (breaks more) (lowest more) (λ rule. skipped (eqb r rule) (breaks more rule)) (lowest_is more (rises-tail r more e))
lowest_is ((r, true) ∷ more) e = (rw (eq-eqb r r refl) refl, λ rule broken. at rule (eqb r rule) refl broken)
  where
    at : (rule : ℕ) (b : Bool) → eqb r rule ≡ b → breaks ((r, true) ∷ more) rule ≡ true → r ≤ rule
    at rule true same broken = let eq : r ≡ rule = eqb-true r rule same in omega arith
    at rule false differ broken = let far : r < rule = above r more e rule (rw differ at broken) in omega arith

pub breaks-append : (t u : List (ℕ × Bool)) (rule : ℕ) → breaks t rule ≡ false → breaks u rule ≡ false → breaks (t ++ u) rule ≡ false
breaks-append t u rule one two = list_any-append (λ r. eqb r.0 rule && r.1) t u ∙ rw one two

-- ---- the rules of a round

-- the rows of these rules
abbrev pub only : List ℕ → List (ℕ × Bool) → List (ℕ × Bool)
only rules table = filter (λ r. list_any (λ q. eqb q r.0) rules) table

pub breaks-only : (rules : List ℕ) (table : List (ℕ × Bool)) (rule : ℕ) → (list_any (λ r. eqb r rule) rules && breaks table rule) ≡ breaks (only rules table) rule
breaks-only rules [] rule = cases (list_any (λ r. eqb r rule) rules)
  where
    cases : (b : Bool) → (b && false) ≡ false
    cases true = refl
    cases false = refl
breaks-only rules (r ∷ more) rule = go (eqb r.0 rule) refl (breaks-only rules more rule)
  where
    among : ℕ → Bool
    among n = list_any (λ q. eqb q n) rules

    in_round : (b : Bool) → among r.0 ≡ b → among rule ≡ b → eqb r.0 rule ≡ true → (among rule && breaks more rule) ≡ breaks (only rules more) rule
        → (among rule && breaks (r ∷ more) rule) ≡ breaks (only rules (r ∷ more)) rule
    in_round true here there same rest = rw (here, there, same) (ap (λ x. r.1 || x) (rw there at rest))
    in_round false here there same rest = rw (here, there) (rw there at rest)

    other : (b : Bool) → among r.0 ≡ b → eqb r.0 rule ≡ false → (among rule && breaks more rule) ≡ breaks (only rules more) rule
        → (among rule && breaks (r ∷ more) rule) ≡ breaks (only rules (r ∷ more)) rule
    other true here differ rest = rw (here, differ) rest
    other false here differ rest = rw (here, differ) rest

    go : (b : Bool) → eqb r.0 rule ≡ b → (among rule && breaks more rule) ≡ breaks (only rules more) rule
        → (among rule && breaks (r ∷ more) rule) ≡ breaks (only rules (r ∷ more)) rule
    go true same rest = in_round (among r.0) refl (ap among (sym (eqb-true r.0 rule same))) same rest
    go false differ rest = other (among r.0) refl differ rest

-- what is lowest in the table of a round is lowest among the rules of the round
pub lowest_in_round : (rules : List ℕ) (table : ℕ → List (ℕ × Bool)) (i : ℕ) (round : List (ℕ × Bool)) → round ≡ only rules (table i) → rises round ≡ true
    → IsLowest (broken_among rules (λ k. breaks (table k)) i) (lowest round)
lowest_in_round rules table i round is up =
    IsLowest-same (broken_among rules (λ k. breaks (table k)) i) (breaks round) (lowest round)
    (λ rule. breaks-only rules (table i) rule ∙ ap (λ rows. breaks rows rule) (sym is)) (lowest_is round up)

-- ---- what is found

module _ (rule : ℕ → Option ℕ) (broken : ℕ → ℕ → Bool) (lowest_of : (i : ℕ) → IsLowest (broken i) (rule i)) (n : ℕ) where
  lowest_at : (i : ℕ) (o : Option ℕ) → rule i ≡ o → IsLowest (broken i) o
  lowest_at i o e = subst (λ (x : Option ℕ). IsLowest (broken i) x) e (lowest_of i)

  -- where none is found, no line breaks a rule
  pub has_none : first_fault rule n ≡ None → HasNoFault broken n
  has_none e i r lt = lowest_at i None (fault_from-clean rule 0 n e i (omega arith) (omega arith)) r

  -- a fault that is found is the first
  pub is_first : (line r : ℕ) → first_fault rule n ≡ Some (line, r) → IsFirstFault broken n (line, r)
  is_first line r e = go (fault_from-found rule 0 n line r e)
    where
      go : (i : ℕ) × (line ≡ i + 1) × IsFirst rule 0 n i r → IsFirstFault broken n (line, r)
      go (i, is, first) =
          let at : line - 1 ≡ i = omega arith in
          let lowest_here = lowest_at i (Some r) first.here in
          record {
            within = (omega arith, omega (arith, first.below));
            breaks_it = rw at lowest_here.0;
            least = λ k s lt b. earlier i is first k s b (ltb k i) refl;
            lowest = λ s b. lowest_here.1 s (rw at at b);
          }
        where
          earlier : (i : ℕ) → line ≡ i + 1 → IsFirst rule 0 n i r → (k s : ℕ) → broken k s ≡ true → (b : Bool) → ltb k i ≡ b → line ≤ k + 1
          earlier i is first k s b true e =
              let lt : k < i = ltb-true k i e in
              absurd (let none : broken k s ≡ false = lowest_at k None (first.before k (omega arith) lt) s in cc)
          earlier i is first k s b false e = let le : i ≤ k = ltb-false k i e in omega arith
