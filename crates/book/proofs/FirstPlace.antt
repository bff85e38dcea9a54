-- A noted place that is believed where the name stands there.
use Rattle.std.proofs.Common.{◌≡◌, ◌≤◌, ◌<◌, ◌∙◌, sym, ap, ℕ, List, [], ◌∷◌, Bool, true, false, Option, Some, None, refl, length, get_or, arith}
use Rattle.std.specs.Prelude.{if◌then◌else◌}
use Rattle.std.specs.List.{position, position_or_len, slice_get}
use Rattle.std.proofs.lemmas.Bool.Decides.{nat_tests}
use Rattle.std.proofs.lemmas.List.Sums.{position_or_len_is, fails_before_first}
use Rattle.std.proofs.lemmas.Option.{slice_get-get_or, slice_get_within, get_or_from_slice_get}

-- the place, where an element that passes stands there
abbrev pub believed_at : {X : Type 0} → (X → Bool) → ℕ → Option X → Option ℕ
believed_at p i None = None
believed_at p i (Some x) = if p x then Some i else None

abbrev pub believed : {X : Type 0} → (X → Bool) → List X → Option ℕ → Option ℕ
believed p xs None = None
believed p xs (Some i) = believed_at p i (slice_get xs i)

position_none : {X : Type 0} (p : X → Bool) (xs : List X) → position_or_len p xs ≡ length xs → position p xs ≡ None
position_none p xs e = grind (arith, nat_tests, e)

position_some : {X : Type 0} (p : X → Bool) (xs : List X) (i : ℕ) → position_or_len p xs ≡ i → i < length xs → position p xs ≡ Some i
position_some p xs i e h = grind (arith, nat_tests, e)

not_true : (b : Bool) → (b ≡ true → ⊥) → b ≡ false
not_true true h = absurd (h refl)
not_true false h = refl

module _ {X : Type 0} (p : X → Bool) (xs : List X) where
  -- each place that passes is the one that is noted
  abbrev pub Only : Option ℕ → Type 0
  Only place = (k : ℕ) (x : X) → slice_get xs k ≡ Some x → p x ≡ true → place ≡ Some k

  none_passes : ((k : ℕ) (x : X) → slice_get xs k ≡ Some x → p x ≡ true → ⊥) → (d : X) → position p xs ≡ None
  none_passes never d = position_none p xs (position_or_len_is p xs (length xs) d (omega arith)
      (λ k h. not_true (p (get_or xs k d)) (λ e. never k (get_or xs k d) (slice_get-get_or xs k d h) e)) (λ h. absurd (omega arith)))

  passes : (i : ℕ) (x : X) → slice_get xs i ≡ Some x → p x ≡ true → ((k : ℕ) (y : X) → slice_get xs k ≡ Some y → p y ≡ true → i ≡ k) → position p xs ≡ Some i
  passes i x at good only =
      let within : i < length xs = slice_get_within xs i x at in
      position_some p xs i (position_or_len_is p xs i x (omega arith)
      (λ k h. let below : k < length xs = omega arith in
      not_true (p (get_or xs k x)) (λ e. let same : i ≡ k = only k (get_or xs k x) (slice_get-get_or xs k x below) e in absurd (omega arith)))
      (λ h. ap p (get_or_from_slice_get xs i x x at) ∙ good)) within

  empty_or : (xs' : List X) → xs' ≡ xs → ((d : X) → position p xs ≡ None) → position p xs ≡ None
  empty_or [] e h = ap (position p) (sym e)
  empty_or (x ∷ more) e h = h x

  none_at_all : ((k : ℕ) (x : X) → slice_get xs k ≡ Some x → p x ≡ true → ⊥) → position p xs ≡ None
  none_at_all never = empty_or xs refl (none_passes never)

  at_a_place : (i : ℕ) → Only (Some i) → (o : Option X) → slice_get xs i ≡ o → believed_at p i o ≡ position p xs
  at_a_place i only None past = sym (none_at_all (λ k x at good. let same : Some i ≡ Some k = only k x at good in let e : i ≡ k = cc in let e2 : slice_get xs i ≡ slice_get xs k = ap (slice_get xs) e in absurd cc))
  at_a_place i only (Some x) at = with_test (p x) refl
    where
      with_test : (b : Bool) → p x ≡ b → (if p x then Some i else None) ≡ position p xs
      with_test true good = rw good (sym (passes i x at good (λ k y at_k fine. let same : Some i ≡ Some k = only k y at_k fine in cc)))
      with_test false bad = rw bad (sym (none_at_all (λ k y at_k fine. let same : Some i ≡ Some k = only k y at_k fine in let e : i ≡ k = cc in absurd cc)))

  pub believed_is_first : (place : Option ℕ) → Only place → believed p xs place ≡ position p xs
  believed_is_first None only = sym (none_at_all (λ k x at good. let e : None ≡ Some k = only k x at good in absurd cc))
  believed_is_first (Some i) only = at_a_place i only (slice_get xs i) refl

-- where none was found, none passes
pub none_there : {X : Type 0} (p : X → Bool) (xs : List X) (i : ℕ) (x : X) → position p xs ≡ None → slice_get xs i ≡ Some x → p x ≡ false
none_there p xs i x none at =
    let within : i < length xs = slice_get_within xs i x at in
    let all : length xs ≤ position_or_len p xs = grind (arith, nat_tests, none) in
    ap p (sym (get_or_from_slice_get xs i x x at)) ∙ fails_before_first p xs i x (omega arith)

-- what a noted place tells of the first
module _ {X : Type 0} (p : X → Bool) (xs : List X) (place : Option ℕ) (first : believed p xs place ≡ position p xs) where
  pub first_none : place ≡ None → position p xs ≡ None
  first_none e = sym first ∙ ap (believed p xs) e

  pub first_past : (i : ℕ) → place ≡ Some i → slice_get xs i ≡ None → position p xs ≡ None
  first_past i e past = sym first ∙ ap (believed p xs) e ∙ ap (believed_at p i) past

  pub first_there : (i : ℕ) (x : X) (b : Bool) → place ≡ Some i → slice_get xs i ≡ Some x → p x ≡ b → position p xs ≡ (if b then Some i else None)
  first_there i x b e at test = sym first ∙ ap (believed p xs) e ∙ ap (believed_at p i) at ∙ ap (λ t. if t then Some i else None) test
