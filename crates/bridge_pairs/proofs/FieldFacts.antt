-- Fields and their names.
use Rattle.std.proofs.Common.{◌≡◌, ℕ, zero, suc, List, [], ◌∷◌, length, map, Some, None, refl, arith}
use Rattle.csv.specs.Records.{field_at}
use Rattle.bridge_pairs.specs.PairText.{two_names, trimmed}

pub names_of_two : (fields : List (List ℕ)) (a b : List ℕ) → length fields ≡ 2 → Some a ≡ field_at fields 0 → Some b ≡ field_at fields 1 → Some (record { a = trimmed a; b = trimmed b }) ≡ two_names (map trimmed fields)
unfolding field_at
names_of_two [] a b len at0 at1 = absurd (omega (arith, len))
names_of_two (x ∷ []) a b len at0 at1 = absurd (omega (arith, len))
names_of_two (x ∷ y ∷ []) a b len at0 at1 =
    let first : a ≡ x = cc in
    let second : b ≡ y = cc in
    rw (first, second) refl
names_of_two (x ∷ y ∷ z ∷ more) a b len at0 at1 = absurd (omega (arith, len))

pub names_of_others : (fields : List (List ℕ)) → (length fields ≡ 2 → ⊥) → None ≡ two_names (map trimmed fields)
names_of_others [] other = refl
names_of_others (x ∷ []) other = refl
names_of_others (x ∷ y ∷ []) other = absurd (other refl)
names_of_others (x ∷ y ∷ z ∷ more) other = refl

pub field_missing : (fields : List (List ℕ)) (i : ℕ) → length fields ≡ 2 → None ≡ field_at fields i → i ≡ 0 → ⊥
unfolding field_at
field_missing [] i len none at = omega (arith, len)
field_missing (x ∷ xs) zero len none at = cc
field_missing (x ∷ xs) (suc i) len none at = omega (arith, at)

pub second_missing : (fields : List (List ℕ)) → length fields ≡ 2 → None ≡ field_at fields 1 → ⊥
unfolding field_at
second_missing [] len none = omega (arith, len)
second_missing (x ∷ []) len none = omega (arith, len)
second_missing (x ∷ y ∷ more) len none = cc
