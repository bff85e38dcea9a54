-- The design of a name, found among those that are kept.
use Rattle.std.proofs.Common.{◌≡◌, ◌+◌, ◌<◌, ◌≤◌, ◌∙◌, sym, ap, suc, ℕ, List, [], ◌∷◌, length, Bool, true, false, cond, not, Option, Some, None, refl, arith, map}
use Rattle.std.specs.Prelude.{slice_get}
use Rattle.std.specs.List.{filter_map, position, position_or_len}
use Rattle.std.specs.Option.{option_map}
use Rattle.std.specs.Str.{bytes_eq}
use Rattle.std.specs.Cmp.Lexicographic.{bytes_decides}
use Rattle.std.proofs.lemmas.Bool.Decides.{nat_tests}
use Rattle.std.proofs.lemmas.Option.{slice_get-map, slice_get_past}
use Rattle.desk_outside.specs.declared.deed.Deed.{Deed}
use Rattle.diagnosis.specs.Designs.{DesignFacts}
use Rattle.book.specs.Deeds.{NamedText, designs, design_text, text_if_named}
use Rattle.book.specs.Kinds.{named}
use Rattle.book.specs.Lookups.{IsFound}

pub position_at : {X : Type 0} (p : X → Bool) (xs : List X) (i : ℕ) → position p xs ≡ Some i → (position_or_len p xs ≡ i) × (i < length xs)
position_at p xs i e = (grind (arith, nat_tests, e), grind (arith, nat_tests, e))

pub position_past : {X : Type 0} (p : X → Bool) (xs : List X) → position p xs ≡ None → length xs ≤ position_or_len p xs
position_past p xs e = grind (arith, nat_tests, e)

pub get_next : {X : Type 0} (y : X) (ys : List X) (n : ℕ) → slice_get (y ∷ ys) (1 + n) ≡ slice_get ys n
get_next y ys n = let e : 1 + n ≡ suc n = omega arith in ap (slice_get (y ∷ ys)) e

passes_cons : {X : Type 0} (p : X → Bool) (y : X) (ys : List X) (x : X) → (slice_get ys (position_or_len p ys) ≡ Some x → p x ≡ true)
    → (b : Bool) → p y ≡ b → slice_get (y ∷ ys) (cond (not b) (1 + position_or_len p ys) 0) ≡ Some x → p x ≡ true
passes_cons p y ys x more true t at = let e : y ≡ x = cc in rw (← e) t
passes_cons p y ys x more false t at = more (sym (get_next y ys (position_or_len p ys)) ∙ at)

first_passes : {X : Type 0} (p : X → Bool) (xs : List X) (x : X) → slice_get xs (position_or_len p xs) ≡ Some x → p x ≡ true
first_passes p [] x at = absurd cc
first_passes p (y ∷ ys) x at = passes_cons p y ys x (first_passes p ys x) (p y) refl at

pub passes_here : {X : Type 0} (p : X → Bool) (xs : List X) (i : ℕ) (x : X) → position_or_len p xs ≡ i → slice_get xs i ≡ Some x → p x ≡ true
passes_here p xs i x e at = first_passes p xs x (ap (slice_get xs) e ∙ at)

text_cons : (name : List ℕ) (n : NamedText) (ns : List NamedText) (b : Bool) → bytes_eq n.name name ≡ b
    → slice_get (filter_map (text_if_named name) ns) 0 ≡ option_map (λ m. m.text) (slice_get ns (position_or_len (λ m. bytes_eq m.name name) ns))
    → slice_get (filter_map (text_if_named name) (n ∷ ns)) 0 ≡ option_map (λ m. m.text) (slice_get (n ∷ ns) (position_or_len (λ m. bytes_eq m.name name) (n ∷ ns)))
text_cons name n ns true t more = rw t refl
text_cons name n ns false t more = rw t (more ∙ ap (option_map (λ m. m.text)) (sym (get_next n ns (position_or_len (λ m. bytes_eq m.name name) ns))))

first_text : (name : List ℕ) (ns : List NamedText) → slice_get (filter_map (text_if_named name) ns) 0 ≡ option_map (λ n. n.text) (slice_get ns (position_or_len (λ n. bytes_eq n.name name) ns))
first_text name [] = refl
first_text name (n ∷ ns) = text_cons name n ns (bytes_eq n.name name) refl (first_text name ns)

place_of_named : (name : List ℕ) (ds : List DesignFacts) → position_or_len (λ n. bytes_eq n.name name) (map named ds) ≡ position_or_len (λ d. bytes_eq d.name name) ds
place_of_named name [] = refl
place_of_named name (d ∷ ds) = ap (λ k. cond (not (bytes_eq d.name name)) (1 + k) 0) (place_of_named name ds)

texts : (o : Option DesignFacts) → option_map (λ n. n.text) (option_map named o) ≡ option_map (λ e. e.text) o
texts None = refl
texts (Some e) = refl

module _ (deeds : List Deed) (kept : List DesignFacts) (name : List ℕ) (same : map named kept ≡ designs deeds) where
  pub text_there : (d : Option DesignFacts) (i : ℕ) → position_or_len (λ e. bytes_eq e.name name) kept ≡ i → slice_get kept i ≡ d → design_text deeds name ≡ option_map (λ e. e.text) d
  text_there d i e at =
      ap (λ ns. slice_get (filter_map (text_if_named name) ns) 0) (sym same)
      ∙ first_text name (map named kept)
      ∙ ap (λ k. option_map (λ n. n.text) (slice_get (map named kept) k)) (place_of_named name kept ∙ e)
      ∙ ap (option_map (λ n. n.text)) (slice_get-map named kept i)
      ∙ texts (slice_get kept i)
      ∙ ap (option_map (λ e. e.text)) at

  pub found_design : (i : ℕ) (d : DesignFacts) → position (λ e. bytes_eq e.name name) kept ≡ Some i → slice_get kept i ≡ Some d → IsFound deeds name (i + 1) d
  found_design i d e at = record {
    named = (bytes_decides d.name name).0 (passes_here (λ x. bytes_eq x.name name) kept i d (position_at (λ x. bytes_eq x.name name) kept i e).0 at);
    text = text_there (Some d) i (position_at (λ x. bytes_eq x.name name) kept i e).0 at;
    numbered = ap (λ k. k + 1) (sym (ap (position_or_len (λ n. bytes_eq n.name name)) (sym same) ∙ place_of_named name kept ∙ (position_at (λ x. bytes_eq x.name name) kept i e).0));
  }

  pub found_none : position (λ e. bytes_eq e.name name) kept ≡ None → design_text deeds name ≡ None
  found_none e = text_there None (position_or_len (λ x. bytes_eq x.name name) kept) refl
      (slice_get_past kept (position_or_len (λ x. bytes_eq x.name name) kept) (position_past (λ x. bytes_eq x.name name) kept e))
