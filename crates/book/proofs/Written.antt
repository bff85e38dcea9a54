-- What is found of dies after one of them was written.
use Rattle.std.proofs.Common.{◌≡◌, ◌∙◌, sym, ap, suc, zero, ℕ, List, [], ◌∷◌, Bool, true, false, ◌&&◌, cond, Some}
use Rattle.std.specs.Prelude.{slice_get, slice_set}
use Rattle.std.specs.List.{position, find}
use Rattle.std.specs.Str.{bytes_eq}
use Rattle.std.proofs.lemmas.List.Folds.{find-set, find_at}
use Rattle.book.specs.Dies.{DieFacts, is_die}
use Rattle.book.proofs.NumberedDesign.{position_at, passes_here}
use Rattle.book.proofs.Keys.{is_die_names, is_die_itself}

-- one that doesn't pass, before and after
find_set_other : {X : Type 0} (p : X → Bool) (xs : List X) (j : ℕ) (k l : X) → slice_get xs j ≡ Some k → p k ≡ false → p l ≡ false → find p (slice_set xs j l) ≡ find p xs
find_set_other p [] j k l at e f = absurd cc
find_set_other p (x ∷ xs) zero k l at e f =
    let same : x ≡ k = cc in
    ap (λ b. cond b (Some l) (find p xs)) f ∙ sym (ap (λ b. cond b (Some x) (find p xs)) (ap p same ∙ e))
find_set_other p (x ∷ xs) (suc j) k l at e f = ap (λ o. cond (p x) (Some x) o) (find_set_other p xs j k l at e f)

module _ (dies : List DieFacts) (d x : List ℕ) (j : ℕ) (k l : DieFacts) (place : position (is_die d x) dies ≡ Some j) (at : slice_get dies j ≡ Some k)
    (design : l.design ≡ k.design) (die : l.die ≡ k.die) where
  passes : is_die d x k ≡ true
  passes = passes_here (is_die d x) dies j k (position_at (is_die d x) dies j place).0 at

  pub names : (k.design ≡ d) × (k.die ≡ x)
  names = is_die_names d x k passes

  pub found_before : find (is_die d x) dies ≡ Some k
  found_before = find_at (is_die d x) dies ∙ ap (slice_get dies) (position_at (is_die d x) dies j place).0 ∙ at

  pub found_after : find (is_die d x) (slice_set dies j l) ≡ Some l
  found_after = find-set (is_die d x) dies j l (sym (position_at (is_die d x) dies j place).0) (position_at (is_die d x) dies j place).1
      (is_die_itself d x l (design ∙ names.0) (die ∙ names.1))

  pub other_found : (e y : List ℕ) → (bytes_eq d e && bytes_eq x y) ≡ false → find (is_die e y) (slice_set dies j l) ≡ find (is_die e y) dies
  other_found e y differ = find_set_other (is_die e y) dies j k l at
      (ap (λ n. bytes_eq n e && bytes_eq k.die y) names.0 ∙ ap (λ n. bytes_eq d e && bytes_eq n y) names.1 ∙ differ)
      (ap (λ n. bytes_eq n e && bytes_eq l.die y) (design ∙ names.0) ∙ ap (λ n. bytes_eq d e && bytes_eq n y) (die ∙ names.1) ∙ differ)
