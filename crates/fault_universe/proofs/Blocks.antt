-- Lists laid end to end: where their elements stand, and whose they are.
use Rattle.std.proofs.Common.{◌≡◌, ℕ, zero, suc, ◌+◌, ◌-◌, ◌*◌, ◌<◌, ◌≤◌, List, [], ◌∷◌, ◌++◌, length, Option, Some, None, refl, sym, ap, ◌∙◌, inl, inr, arith, length-append}
use Rattle.std.specs.Prelude.{flat_map, slice_get, Contains, option_map}
use Rattle.std.specs.List.{AllByRecursion}
use Rattle.std.proofs.Math.Nat.{mul-suc}
use Rattle.std.proofs.lemmas.List.Elements.{All-from_recursion, All-contains, Contains-append_cases}
use Rattle.std.proofs.lemmas.Option.{slice_get_within}
use Rattle.scan_model.specs.declared.fault.Fault.{Fault}
use Rattle.fault_universe.specs.FaultPlaces.{FindsPlace}

module _ {X : Type 0} where
  pub slice_get-left : (xs ys : List X) (k : ℕ) → k < length xs → slice_get (xs ++ ys) k ≡ slice_get xs k
  slice_get-left [] ys k lt = absurd (omega arith)
  slice_get-left (x ∷ xs) ys zero lt = refl
  slice_get-left (x ∷ xs) ys (suc k) lt = slice_get-left xs ys k (omega arith)

  pub slice_get-right : (xs ys : List X) (k : ℕ) → length xs ≤ k → slice_get (xs ++ ys) k ≡ slice_get ys (k - length xs)
  slice_get-right [] ys k le = ap (slice_get ys) (omega arith)
  slice_get-right (x ∷ xs) ys zero le = absurd (omega arith)
  slice_get-right (x ∷ xs) ys (suc k) le = slice_get-right xs ys k (omega arith) ∙ ap (slice_get ys) (omega arith)

  pub Contains-at : (xs : List X) (k : ℕ) (x : X) → slice_get xs k ≡ Some x → Contains xs x
  Contains-at [] k x e = cc
  Contains-at (y ∷ xs) zero x e = let same : y ≡ x = cc in (0, omega arith, same)
  Contains-at (y ∷ xs) (suc k) x e = let at = Contains-at xs k x e in (suc at.0, omega (arith, at.1), at.2)

module _ {X Y : Type 0} (f : X → List Y) where
  -- blocks of one length

  pub length-blocks : (n : ℕ) (xs : List X) → ((x : X) → length (f x) ≡ n) → length (flat_map f xs) ≡ n * length xs
  length-blocks n [] size = omega arith
  length-blocks n (x ∷ xs) size = length-append (f x) (flat_map f xs) ∙ omega (arith, size x, length-blocks n xs size, mul-suc n (length xs))

  pub block_at : (n : ℕ) (xs : List X) (i j k : ℕ) (x : X) → ((x : X) → length (f x) ≡ n) → slice_get xs i ≡ Some x → j < n → n * i + j ≡ k → slice_get (flat_map f xs) k ≡ slice_get (f x) j
  block_at n [] i j k x size at lt is = cc
  block_at n (y ∷ xs) zero j k x size at lt is =
      let same : y ≡ x = cc in
      let here : j ≡ k = omega arith in
      slice_get-left (f y) (flat_map f xs) k (omega (arith, size y)) ∙ ap (λ v. slice_get (f v) k) same ∙ ap (slice_get (f x)) (sym here)
  block_at n (y ∷ xs) (suc i) j k x size at lt is =
      let later : n * i + j ≡ k - length (f y) = omega (arith, size y, mul-suc n i) in
      slice_get-right (f y) (flat_map f xs) k (omega (arith, size y, mul-suc n i)) ∙ block_at n xs i j (k - length (f y)) x size at lt later

  -- an element is one of a block

  pub block_of : (xs : List X) (y : Y) → Contains (flat_map f xs) y → (x : X) × Contains xs x × Contains (f x) y
  block_of [] y there = absurd (omega (arith, there.1))
  block_of (x ∷ xs) y there = elim (Contains-append_cases (f x) (flat_map f xs) y there) [
    | inl here ↦ (x, (0, omega arith, refl), here)
    | inr later ↦ let at = block_of xs y later in (at.0, (suc at.1.0, omega (arith, at.1.1), at.1.2), at.2)
  ]

  pub owner : (P : X → Y → Type 0) (xs : List X) (y : Y) → ((x : X) → AllByRecursion (P x) (f x)) → Contains (flat_map f xs) y → (x : X) × Contains xs x × P x y
  owner P xs y each there =
      let at = block_of xs y there in
      (at.0, at.1, All-contains (P at.0) (f at.0) y (All-from_recursion (P at.0) (f at.0) (each at.0)) at.2)

-- where a fault stands, once other faults follow or stand before

pub found_before : (xs ys : List Fault) (f : Fault) (answer : Option ℕ) → (Contains ys f → ⊥) → FindsPlace xs f answer → FindsPlace (xs ++ ys) f answer
found_before xs ys f None other found = λ there. elim (Contains-append_cases xs ys f there) [ inl here ↦ found here | inr later ↦ other later ]
found_before xs ys f (Some k) other found = slice_get-left xs ys k (slice_get_within xs k f found) ∙ found

pub found_after : (xs ys : List Fault) (f : Fault) (answer : Option ℕ) → (Contains xs f → ⊥) → FindsPlace ys f answer → FindsPlace (xs ++ ys) f (option_map (λ k. length xs + k) answer)
found_after xs ys f None other found = λ there. elim (Contains-append_cases xs ys f there) [ inl here ↦ other here | inr later ↦ found later ]
found_after xs ys f (Some k) other found = slice_get-right xs ys (length xs + k) (omega arith) ∙ ap (slice_get ys) (omega arith) ∙ found
