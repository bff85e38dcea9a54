-- Designs that stand at the places that are noted for their names.
use Rattle.std.proofs.Common.{◌≡◌, ◌≤◌, ◌∙◌, sym, ap, zero, suc, ℕ, List, [], ◌∷◌, ◌++◌, Bool, false, Some, None, Vec, BTreeMap, length}
use Rattle.std.specs.Prelude.{if◌then◌else◌}
use Rattle.std.specs.List.{position, slice_get}
use Rattle.std.specs.Str.{bytes_eq}
use Rattle.std.specs.Cmp.Lexicographic.{bytes_decides, nat_list_eq_equiv}
use Rattle.std.specs.Arc.{arc_value}
use Rattle.std.specs.Option.{option_map}
use Rattle.std.specs.declared.alloc.Global.{Global}
use Rattle.std.specs.declared.sync.Arc.{Arc}
use Rattle.std.proofs.lemmas.List.{map_push}
use Rattle.std.proofs.lemmas.Option.{slice_get-map, slice_get_past}
use Rattle.diagnosis.specs.Designs.{DesignFacts}
use Rattle.die_entries.specs.Entries.{arc_values}
use Rattle.book.specs.Places.{place_of, AreNoted}
use Rattle.book.proofs.FirstPlace.{believed, believed_is_first, none_there}

-- an element of a list with one more is of the list or that one
pub get_of_push : {X : Type 0} (P : X → ℕ → Type 0) (xs : List X) (y : X) → ((i : ℕ) (x : X) → slice_get xs i ≡ Some x → P x i) → P y (length xs)
    → (i : ℕ) (x : X) → slice_get (xs ++ y ∷ []) i ≡ Some x → P x i
get_of_push P [] y old new zero x e = let same : y ≡ x = cc in rw (← same) new
get_of_push P [] y old new (suc i) x e = absurd cc
get_of_push P (z ∷ zs) y old new zero x e = old zero x e
get_of_push P (z ∷ zs) y old new (suc i) x e = get_of_push (λ v k. P v (suc k)) zs y (λ k v at. old (suc k) v at) new i x e

pub arc_there : {X : Type 0} (xs : List (Arc X Global)) (i : ℕ) (x : Arc X Global) → slice_get xs i ≡ Some x → slice_get (arc_values xs) i ≡ Some (arc_value x)
arc_there xs i x at = slice_get-map (λ y. arc_value y) xs i ∙ ap (option_map (λ y. arc_value y)) at

pub arc_past : {X : Type 0} (xs : List (Arc X Global)) (i : ℕ) → length xs ≤ i → slice_get (arc_values xs) i ≡ None
arc_past xs i past = slice_get-map (λ y. arc_value y) xs i ∙ ap (option_map (λ y. arc_value y)) (slice_get_past xs i past)

pub arc_push : {X : Type 0} (xs : List (Arc X Global)) (x : Arc X Global) → arc_values (xs ++ x ∷ []) ≡ arc_values xs ++ arc_value x ∷ []
arc_push xs x = map_push (λ y. arc_value y) xs x

module _ (places : BTreeMap (Vec ℕ Global) ℕ) (ds : List DesignFacts) (noted : AreNoted places ds) (name : List ℕ) where
  pub noted_place : believed (λ d. bytes_eq d.name name) ds (place_of places name) ≡ position (λ d. bytes_eq d.name name) ds
  noted_place = believed_is_first (λ d. bytes_eq d.name name) ds (place_of places name)
      (λ k d at same. let e : d.name ≡ name = (bytes_decides d.name name).0 same in rw (← e) (noted k d at))

  pub not_noted : place_of places name ≡ None → position (λ d. bytes_eq d.name name) ds ≡ None
  not_noted e = sym noted_place ∙ (rw e)

  pub noted_past : (i : ℕ) → place_of places name ≡ Some i → slice_get ds i ≡ None → position (λ d. bytes_eq d.name name) ds ≡ None
  noted_past i e past = sym noted_place ∙ (rw (e, past))

  pub noted_there : (i : ℕ) (d : DesignFacts) (b : Bool) → place_of places name ≡ Some i → slice_get ds i ≡ Some d → bytes_eq d.name name ≡ b → position (λ d. bytes_eq d.name name) ds ≡ (if b then Some i else None)
  noted_there i d b e at test = sym noted_place ∙ (rw (e, at, test))

-- notes of a name that stands nowhere leave the others
module _ (old new : BTreeMap (Vec ℕ Global) ℕ) (ds : List DesignFacts) (d : DesignFacts) (noted : AreNoted old ds)
    (absent : position (λ e. bytes_eq e.name d.name) ds ≡ None) (others : (name : List ℕ) → bytes_eq d.name name ≡ false → place_of new name ≡ place_of old name) where
  pub AreNoted-kept : AreNoted new ds
  AreNoted-kept i e at = others e.name (nat_list_eq_equiv.symm d.name e.name ∙ none_there (λ e. bytes_eq e.name d.name) ds i e absent at) ∙ noted i e at

  pub AreNoted-push : place_of new d.name ≡ Some (length ds) → AreNoted new (ds ++ d ∷ [])
  AreNoted-push here = get_of_push (λ e i. place_of new e.name ≡ Some i) ds d AreNoted-kept here
