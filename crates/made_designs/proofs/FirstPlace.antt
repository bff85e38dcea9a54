-- The first item that passes a test.
use Rattle.std.proofs.Common.{◌≡◌, ℕ, ◌+◌, ◌<◌, ◌≤◌, Bool, true, false, List, [], ◌∷◌, length, map, get_or, Some, None, refl, ap, ◌∙◌, arith}
use Rattle.std.specs.Prelude.{position, slice_get}
use Rattle.std.specs.List.{find, position_or_len, range_with_len, enumerate_from}
use Rattle.std.proofs.lemmas.Bool.Decides.{nat_tests}
use Rattle.std.proofs.lemmas.List.Folds.{find_at}
use Rattle.std.proofs.lemmas.List.FromFn.{length-map-range_with_len, get_or-map-range_with_len, get_or-enumerate_from, length-enumerate_from}
use Rattle.std.proofs.lemmas.List.Sums.{position_or_len_is}
use Rattle.std.proofs.lemmas.List.Quantifiers.{position-Some}
use Rattle.std.proofs.lemmas.Option.{slice_get-get_or, slice_get_past}

module _ {X : Type 0} (p : X → Bool) (f : ℕ → X) (n : ℕ) where
  -- among the values of a function at the numbers below n: at the first number where one passes
  pub found_first : (i : ℕ) → i < n → ((k : ℕ) → k < i → p (f k) ≡ false) → p (f i) ≡ true → find p (map f (range_with_len 0 n)) ≡ Some (f i)
  found_first i lt before here =
      let xs : List X = map f (range_with_len 0 n) in
      let len : length xs ≡ n = length-map-range_with_len f 0 n in
      let at : (k : ℕ) → k < n → get_or xs k (f i) ≡ f k = λ k h. get_or-map-range_with_len f 0 n k k (f i) h (omega arith) in
      let place : position_or_len p xs ≡ i = position_or_len_is p xs i (f i) (omega arith) (λ k h. ap p (at k (omega arith)) ∙ before k h) (λ h. ap p (at i lt) ∙ here) in
      find_at p xs ∙ ap (slice_get xs) place ∙ slice_get-get_or xs i (f i) (omega arith) ∙ ap (λ (x : X). Some x) (at i lt)

  -- none, where none passes
  pub found_none : ((k : ℕ) → k < n → p (f k) ≡ false) → find p (map f (range_with_len 0 n)) ≡ None
  found_none each =
      let xs : List X = map f (range_with_len 0 n) in
      let len : length xs ≡ n = length-map-range_with_len f 0 n in
      let at : (k : ℕ) → k < n → get_or xs k (f 0) ≡ f k = λ k h. get_or-map-range_with_len f 0 n k k (f 0) h (omega arith) in
      let place : position_or_len p xs ≡ n = position_or_len_is p xs n (f 0) (omega arith) (λ k h. ap p (at k h) ∙ each k h) (λ h. absurd (omega arith)) in
      find_at p xs ∙ ap (slice_get xs) place ∙ slice_get_past xs n (omega arith)

module _ {X : Type 0} (q : X → Bool) where
  abbrev numbered : ℕ × X → Bool
  numbered e = q e.1

  same_place : (n : ℕ) (xs : List X) → position_or_len numbered (enumerate_from n xs) ≡ position_or_len q xs
  same_place n [] = refl
  same_place n (x ∷ xs) = rw (same_place (n + 1) xs) refl

  past_all : (xs : List X) → position q xs ≡ None → length xs ≤ position_or_len q xs
  past_all xs none = grind (arith, nat_tests, none)

  -- among numbered items, where the item is at a place
  pub numbered_at : (n : ℕ) (xs : List X) (i : ℕ) (d : X) → position q xs ≡ Some i → find (λ e. q e.1) (enumerate_from n xs) ≡ Some (n + i, get_or xs i d)
  numbered_at n xs i d is =
      let first = position-Some q xs i d is in
      let lt : i < length xs = first.0 in
      let place : position_or_len q xs ≡ i = position_or_len_is q xs i d (omega arith) first.2 (λ h. first.1) in
      let len : length (enumerate_from n xs) ≡ length xs = length-enumerate_from n xs in
      find_at numbered (enumerate_from n xs) ∙ ap (slice_get (enumerate_from n xs)) (same_place n xs ∙ place)
      ∙ slice_get-get_or (enumerate_from n xs) i (0, d) (omega arith) ∙ ap (λ (e : ℕ × X). Some e) (get_or-enumerate_from n xs i (0, d) lt)

  pub numbered_none : (n : ℕ) (xs : List X) → position q xs ≡ None → find (λ e. q e.1) (enumerate_from n xs) ≡ None
  numbered_none n xs none =
      let len : length (enumerate_from n xs) ≡ length xs = length-enumerate_from n xs in
      let past : length xs ≤ position_or_len q xs = past_all xs none in
      find_at numbered (enumerate_from n xs) ∙ ap (slice_get (enumerate_from n xs)) (same_place n xs) ∙ slice_get_past (enumerate_from n xs) (position_or_len q xs) (omega arith)
