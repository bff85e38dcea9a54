-- Dies of which one was given room.
use Rattle.std.proofs.Common.{◌≡◌, ◌∙◌, sym, ap, suc, zero, ℕ, List, [], ◌∷◌, Bool, true, false, ◌&&◌, cond, Option, Some, None, refl, length, get_or, arith}
use Rattle.std.specs.Prelude.{slice_get, slice_set}
use Rattle.std.specs.List.{position, position_or_len, find}
use Rattle.std.specs.Str.{bytes_eq}
use Rattle.std.proofs.lemmas.Bool.Decides.{nat_tests}
use Rattle.std.proofs.lemmas.List.{length-set}
use Rattle.std.proofs.lemmas.List.Folds.{position_or_len-set}
use Rattle.std.proofs.lemmas.Option.{get_or_from_slice_get}
use Rattle.book.specs.Dies.{DieFacts, is_die, logs_in, signs_in, kept_logs, kept_signs, IsSameDie, AreSameDies}

is_die-same : (d x : List ℕ) (k l : DieFacts) → IsSameDie k l → is_die d x l ≡ is_die d x k
is_die-same d x k l same = ap (λ n. bytes_eq n d && bytes_eq l.die x) same.design ∙ ap (λ n. bytes_eq k.design d && bytes_eq n x) same.die

position-by : {X : Type 0} (p : X → Bool) (xs ys : List X) → position_or_len p ys ≡ position_or_len p xs → length ys ≡ length xs → position p ys ≡ position p xs
position-by p xs ys e h = grind (arith, nat_tests, e, h)

logs_of_both : (b : Bool) (k l : DieFacts) (o : Option DieFacts) → l.logs ≡ k.logs → logs_in (cond b (Some l) o) ≡ logs_in (cond b (Some k) o)
logs_of_both true k l o e = e
logs_of_both false k l o e = refl

signs_of_both : (b : Bool) (k l : DieFacts) (o : Option DieFacts) → l.signs ≡ k.signs → signs_in (cond b (Some l) o) ≡ signs_in (cond b (Some k) o)
signs_of_both true k l o e = e
signs_of_both false k l o e = refl

logs_past : (b : Bool) (k : DieFacts) (o p : Option DieFacts) → logs_in o ≡ logs_in p → logs_in (cond b (Some k) o) ≡ logs_in (cond b (Some k) p)
logs_past true k o p e = refl
logs_past false k o p e = e

signs_past : (b : Bool) (k : DieFacts) (o p : Option DieFacts) → signs_in o ≡ signs_in p → signs_in (cond b (Some k) o) ≡ signs_in (cond b (Some k) p)
signs_past true k o p e = refl
signs_past false k o p e = e

module _ (k l : DieFacts) (same : IsSameDie k l) (d x : List ℕ) where
  logs-set : (dies : List DieFacts) (j : ℕ) → slice_get dies j ≡ Some k → kept_logs (slice_set dies j l) d x ≡ kept_logs dies d x
  logs-set [] j at = absurd cc
  logs-set (z ∷ zs) zero at =
      let is : k ≡ z = cc in
      ap (λ b. logs_in (cond b (Some l) (find (is_die d x) zs))) (is_die-same d x k l same)
      ∙ logs_of_both (is_die d x k) k l (find (is_die d x) zs) same.logs
      ∙ ap (λ m. logs_in (cond (is_die d x m) (Some m) (find (is_die d x) zs))) is
  logs-set (z ∷ zs) (suc j) at = logs_past (is_die d x z) z (find (is_die d x) (slice_set zs j l)) (find (is_die d x) zs) (logs-set zs j at)

  signs-set : (dies : List DieFacts) (j : ℕ) → slice_get dies j ≡ Some k → kept_signs (slice_set dies j l) d x ≡ kept_signs dies d x
  signs-set [] j at = absurd cc
  signs-set (z ∷ zs) zero at =
      let is : k ≡ z = cc in
      ap (λ b. signs_in (cond b (Some l) (find (is_die d x) zs))) (is_die-same d x k l same)
      ∙ signs_of_both (is_die d x k) k l (find (is_die d x) zs) same.signs
      ∙ ap (λ m. signs_in (cond (is_die d x m) (Some m) (find (is_die d x) zs))) is
  signs-set (z ∷ zs) (suc j) at = signs_past (is_die d x z) z (find (is_die d x) (slice_set zs j l)) (find (is_die d x) zs) (signs-set zs j at)

  places-set : (dies : List DieFacts) (j : ℕ) → slice_get dies j ≡ Some k → position (is_die d x) (slice_set dies j l) ≡ position (is_die d x) dies
  places-set dies j at = position-by (is_die d x) dies (slice_set dies j l)
      (position_or_len-set (is_die d x) dies j l k (is_die-same d x k l same ∙ ap (is_die d x) (sym (get_or_from_slice_get dies j k k at)))) (length-set dies j l)

pub same_dies : (dies : List DieFacts) (j : ℕ) (k l : DieFacts) → slice_get dies j ≡ Some k → IsSameDie k l → AreSameDies dies (slice_set dies j l)
same_dies dies j k l at same = record {
  places = λ d x. places-set k l same d x dies j at;
  logs = λ d x. logs-set k l same d x dies j at;
  signs = λ d x. signs-set k l same d x dies j at;
}
