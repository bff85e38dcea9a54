-- When the XOR of several values is the opposite of that of others.
use Rattle.std.proofs.Common.{◌≡◌, true, false, List, [], ◌∷◌, map, refl, sym, ap, ◌∙◌, inl, inr}
use Rattle.std.specs.List.{list_any, AllByRecursion}
use Rattle.std.proofs.lemmas.Bool.{cases_Bool, or_parts}
use Rattle.scan_model.specs.declared.values.Tri.{Tri}
use Rattle.scan_model.specs.declared.values.Tri.TheVariants.{Zero, One, Unknown}
use Rattle.scan_model.specs.Values.{IsAtLeast, AreAtLeast, is_unknown, are_opposite, xor_of}
use Rattle.scan_model.proofs.counting.Shown.{not_opposite_itself}

pub xor_one : (x : Tri) → xor_of (x ∷ []) ≡ x
xor_one Zero = refl
xor_one One = refl
xor_one Unknown = refl

hidden : (x : Tri) → are_opposite x Unknown ≡ false
hidden Zero = refl
hidden One = refl
hidden Unknown = refl

-- ---- lists, value by value

pub map_above : {A : Type 0} (P : A → Type 0) (f g : A → Tri) (xs : List A) → AllByRecursion P xs → ((x : A) → P x → IsAtLeast (f x) (g x)) → AreAtLeast (map f xs) (map g xs)
map_above P f g [] all h = tt
map_above P f g (x ∷ xs) all h = (h x all.0, map_above P f g xs all.1 h)

pub map_same : {A B : Type 0} (P : A → Type 0) (f g : A → B) (xs : List A) → AllByRecursion P xs → ((x : A) → P x → f x ≡ g x) → map f xs ≡ map g xs
map_same P f g [] all h = refl
map_same P f g (x ∷ xs) all h = rw (h x all.0, map_same P f g xs all.1 h) refl

-- ---- a fail of the XOR is one of an operand

definite_same : (x v : Tri) → is_unknown x ≡ false → is_unknown v ≡ false → are_opposite x v ≡ false → x ≡ v
definite_same Zero Zero a b e = refl
definite_same One One a b e = refl
definite_same Zero One a b e = absurd cc
definite_same One Zero a b e = absurd cc
definite_same Unknown v a b e = absurd cc
definite_same Zero Unknown a b e = absurd cc
definite_same One Unknown a b e = absurd cc

module _ {A : Type 0} (f g : A → Tri) where
  all_same : (xs : List A) → list_any is_unknown (map f xs) ≡ false → list_any is_unknown (map g xs) ≡ false → list_any (λ x. are_opposite (f x) (g x)) xs ≡ false → map f xs ≡ map g xs
  all_same [] a b e = refl
  all_same (x ∷ xs) a b e =
      let one = or_parts (is_unknown (f x)) (list_any is_unknown (map f xs)) a in
      let two = or_parts (is_unknown (g x)) (list_any is_unknown (map g xs)) b in
      let both = or_parts (are_opposite (f x) (g x)) (list_any (λ y. are_opposite (f y) (g y)) xs) e in
      rw (definite_same (f x) (g x) one.0 two.0 both.0, all_same xs one.1 two.1 both.1) refl

  none_fails : (xs : List A) → list_any (λ x. are_opposite (f x) (g x)) xs ≡ false → are_opposite (xor_of (map f xs)) (xor_of (map g xs)) ≡ false
  none_fails xs none = elim (cases_Bool (list_any is_unknown (map f xs))) [
    | inl unknown ↦ rw unknown refl
    | inr known ↦ elim (cases_Bool (list_any is_unknown (map g xs))) [
      | inl hides ↦ rw hides (hidden (xor_of (map f xs)))
      | inr shows ↦ ap (λ (vs : List Tri). are_opposite (xor_of (map f xs)) (xor_of vs)) (sym (all_same xs known shows none)) ∙ not_opposite_itself (xor_of (map f xs))
    ]
  ]

  pub some_fails : (xs : List A) → are_opposite (xor_of (map f xs)) (xor_of (map g xs)) ≡ true → list_any (λ x. are_opposite (f x) (g x)) xs ≡ true
  some_fails xs fails = elim (cases_Bool (list_any (λ x. are_opposite (f x) (g x)) xs)) [
    | inl some ↦ some
    | inr none ↦ absurd (let bad : false ≡ true = sym (none_fails xs none) ∙ fails in cc)
  ]
