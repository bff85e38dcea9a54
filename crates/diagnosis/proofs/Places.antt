-- The first place at which a test passes.
use Rattle.std.proofs.Common.{◌≡◌, ℕ, Bool, true, false, ltb, List, [], ◌∷◌, length, map, Some, None, is_some, refl, sym, ap, ◌∙◌}
use Rattle.std.specs.Prelude.{position}
use Rattle.std.specs.List.{list_any, position_or_len}
use Rattle.std.proofs.lemmas.List.{length-map}
use Rattle.text_parts.proofs.Places.{any_position}

module _ {X Y : Type 0} (p : Y → Bool) (f : X → Y) where
  place_of_map : (xs : List X) → position_or_len p (map f xs) ≡ position_or_len (λ x. p (f x)) xs
  place_of_map [] = refl
  place_of_map (x ∷ xs) = rw (place_of_map xs) refl

  pub position_of_map : (xs : List X) → position p (map f xs) ≡ position (λ x. p (f x)) xs
  position_of_map xs = rw (place_of_map xs, length-map xs f) refl

module _ {X : Type 0} (p : X → Bool) (xs : List X) where
  pub found_at : (i : ℕ) → position p xs ≡ Some i → (list_any p xs ≡ true) × (i ≡ position_or_len p xs)
  found_at i e = (sym (any_position p xs) ∙ ap is_some e, go (ltb (position_or_len p xs) (length xs)) refl)
    where
      go : (b : Bool) → ltb (position_or_len p xs) (length xs) ≡ b → i ≡ position_or_len p xs
      go true h = let same : Some (position_or_len p xs) ≡ Some i = rw h at e in cc
      go false h = absurd (let no : None ≡ Some i = rw h at e in cc)

  pub found_nowhere : position p xs ≡ None → list_any p xs ≡ false
  found_nowhere e = sym (any_position p xs) ∙ ap is_some e
