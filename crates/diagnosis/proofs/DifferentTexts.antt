-- The different texts of a list.
use Rattle.std.proofs.Common.{◌≡◌, ℕ, Bool, true, false, ◌||◌, List, [], ◌∷◌, ◌++◌, refl, sym, ap, ◌∙◌, append_assoc}
use Rattle.std.specs.Prelude.{if◌then◌else◌}
use Rattle.std.specs.List.{list_any, IsDistinct, AllByRecursion}
use Rattle.std.specs.Str.{bytes_eq}
use Rattle.std.proofs.lemmas.Bool.{or_from}
use Rattle.std.proofs.lemmas.Cmp.{nat_list_eq_equiv}
use Rattle.std.proofs.lemmas.List.{append-nil}
use Rattle.std.proofs.lemmas.List.Folds.{list_any-append}
use Rattle.std.proofs.lemmas.Map.Keys.{IsDistinct-head, IsDistinct-tail, IsDistinct-push}
use Rattle.std.proofs.lemmas.Slice.Eq.{bytes_eq-Decides}
use Rattle.scan_model.specs.Words.{has_word}
use Rattle.scan_model.specs.DieReport.{different_after, different}

or_same : (a b c : Bool) → (b ≡ true → a ≡ true) → (a || c) ≡ (a || (b || c))
or_same true b c seen = refl
or_same false true c seen = absurd (let no : false ≡ true = seen refl in cc)
or_same false false c seen = refl

or_assoc : (a b c : Bool) → ((a || (b || false)) || c) ≡ (a || (b || c))
or_assoc true b c = refl
or_assoc false true c = refl
or_assoc false false c = refl

-- ---- a test

module _ (p : List ℕ → Bool) where
  -- a text that was seen passes no test that those seen fail
  passed_by_seen : (seen : List (List ℕ)) (x : List ℕ) → has_word seen x ≡ true → p x ≡ true → list_any p seen ≡ true
  passed_by_seen [] x has passes = absurd cc
  passed_by_seen (s ∷ seen) x has passes = go (bytes_eq x s) refl (p s) refl (λ more. passed_by_seen seen x more passes)
    where
      go : (b : Bool) → bytes_eq x s ≡ b → (q : Bool) → p s ≡ q → (has_word seen x ≡ true → list_any p seen ≡ true) → (q || list_any p seen) ≡ true
      go b e true h later = refl
      go true e false h later = absurd (let same : x ≡ s = (bytes_eq-Decides x s).0 e in let no : false ≡ true = sym h ∙ ap p (sym same) ∙ passes in cc)
      go false e false h later = later (rw e at has)

  any_after : (seen xs : List (List ℕ)) → (list_any p seen || list_any p (different_after seen xs)) ≡ (list_any p seen || list_any p xs)
  any_after seen [] = refl
  any_after seen (x ∷ xs) = go (has_word seen x) refl (any_after seen xs) (any_after (seen ++ x ∷ []) xs)
    where
      go : (b : Bool) → has_word seen x ≡ b
          → (list_any p seen || list_any p (different_after seen xs)) ≡ (list_any p seen || list_any p xs)
          → (list_any p (seen ++ x ∷ []) || list_any p (different_after (seen ++ x ∷ []) xs)) ≡ (list_any p (seen ++ x ∷ []) || list_any p xs)
          → (list_any p seen || list_any p (if b then different_after seen xs else x ∷ different_after (seen ++ x ∷ []) xs)) ≡ (list_any p seen || (p x || list_any p xs))
      go true again later with_x = later ∙ or_same (list_any p seen) (p x) (list_any p xs) (passed_by_seen seen x again)
      go false new later with_x =
          let more : list_any p (seen ++ x ∷ []) ≡ (list_any p seen || (p x || false)) = list_any-append p seen (x ∷ []) in
          sym (or_assoc (list_any p seen) (p x) (list_any p (different_after (seen ++ x ∷ []) xs)))
          ∙ ap (λ b. b || list_any p (different_after (seen ++ x ∷ []) xs)) (sym more)
          ∙ with_x
          ∙ ap (λ b. b || list_any p xs) more
          ∙ or_assoc (list_any p seen) (p x) (list_any p xs)

  -- the different texts pass a test as all of them do
  pub any_different : (xs : List (List ℕ)) → list_any p (different xs) ≡ list_any p xs
  any_different xs = any_after [] xs

-- ---- they differ

differ_after : (seen xs : List (List ℕ)) → IsDistinct bytes_eq seen → IsDistinct bytes_eq (seen ++ different_after seen xs)
differ_after seen [] differ = rw (append-nil seen) differ
differ_after seen (x ∷ xs) differ = go (has_word seen x) refl (differ_after seen xs differ) (differ_after (seen ++ x ∷ []) xs)
  where
    go : (b : Bool) → has_word seen x ≡ b → IsDistinct bytes_eq (seen ++ different_after seen xs)
        → (IsDistinct bytes_eq (seen ++ x ∷ []) → IsDistinct bytes_eq ((seen ++ x ∷ []) ++ different_after (seen ++ x ∷ []) xs))
        → IsDistinct bytes_eq (seen ++ (if b then different_after seen xs else x ∷ different_after (seen ++ x ∷ []) xs))
    go true again later with_x = later
    go false new later with_x = rw (append_assoc seen (x ∷ []) (different_after (seen ++ x ∷ []) xs)) at (with_x (IsDistinct-push nat_list_eq_equiv seen x differ new))

pub different_differ : (xs : List (List ℕ)) → IsDistinct bytes_eq (different xs)
unfolding IsDistinct
different_differ xs = differ_after [] xs tt

-- ---- texts that differ

-- none of these texts was seen
abbrev AreNew : List (List ℕ) → List (List ℕ) → Type 0
AreNew seen xs = AllByRecursion (λ x. has_word seen x ≡ false) xs

still_new : (seen : List (List ℕ)) (x : List ℕ) (xs : List (List ℕ)) → AreNew seen xs → AllByRecursion (λ y. bytes_eq x y ≡ false) xs → AreNew (seen ++ x ∷ []) xs
still_new seen x [] new others = tt
still_new seen x (y ∷ ys) new others = (
  list_any-append (bytes_eq y) seen (x ∷ []) ∙ or_from (has_word seen y) (bytes_eq y x || false) new.0 (or_from (bytes_eq y x) false (nat_list_eq_equiv.symm y x ∙ others.0) refl),
  still_new seen x ys new.1 others.1,
)

all_new : (seen xs : List (List ℕ)) → AreNew seen xs → IsDistinct bytes_eq xs → different_after seen xs ≡ xs
all_new seen [] new differ = refl
all_new seen (x ∷ xs) new differ =
    rw new.0 (ap (λ rest. x ∷ rest) (all_new (seen ++ x ∷ []) xs (still_new seen x xs new.1 (IsDistinct-head bytes_eq x xs differ)) (IsDistinct-tail bytes_eq x xs differ)))

none_seen : (xs : List (List ℕ)) → AreNew [] xs
none_seen [] = tt
none_seen (x ∷ xs) = (refl, none_seen xs)

-- texts that differ are all different ones
pub different_is : (xs : List (List ℕ)) → IsDistinct bytes_eq xs → different xs ≡ xs
different_is xs differ = all_new [] xs (none_seen xs) differ
