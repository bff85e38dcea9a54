-- Dies that stand at the places that are noted for their names.
use Rattle.std.proofs.Common.{◌≡◌, ◌<◌, ◌∙◌, sym, ap, subst, suc, zero, ℕ, List, [], ◌∷◌, ◌++◌, Bool, true, false, cond, not, Option, Some, None, Vec, BTreeMap, refl, length, get_or, arith}
use Rattle.std.specs.Prelude.{if◌then◌else◌, slice_get, slice_set}
use Rattle.std.specs.List.{position, find}
use Rattle.std.specs.Str.{bytes_eq}
use Rattle.std.specs.Cmp.Lexicographic.{bytes_decides}
use Rattle.std.specs.declared.alloc.Global.{Global}
use Rattle.std.proofs.lemmas.Bool.Decides.{nat_tests}
use Rattle.std.proofs.lemmas.Option.{get_or_from_slice_get, slice_get-get_or}
use Rattle.std.proofs.lemmas.List.{length_push}
use Rattle.std.proofs.lemmas.List.Sums.{prefix_len-le-length}
use Rattle.std.proofs.lemmas.List.Folds.{position_or_len_push}
use Rattle.scan_model.specs.Words.{is_tag}
use Rattle.book.specs.Places.{place_of}
use Rattle.book.specs.Dies.{DieFacts, bare_die, die_key, is_die, IsNotedDie, AreNotedDies, logs_in, signs_in, kept_logs, kept_signs}
use Rattle.book.proofs.FirstPlace.{believed, believed_is_first, none_there}
use Rattle.book.proofs.Noted.{get_of_push}
use Rattle.book.proofs.Keys.{key_parts, is_die_names, is_die_itself}

-- an element of a list with one written is of the list or that one
pub get_of_set : {X : Type 0} (P : X → ℕ → Type 0) (xs : List X) (j : ℕ) (y : X) → ((i : ℕ) (x : X) → slice_get xs i ≡ Some x → P x i)
    → ((x : X) → slice_get xs j ≡ Some x → P y j) → (i : ℕ) (k : X) → slice_get (slice_set xs j y) i ≡ Some k → P k i
get_of_set P [] j y old new i k e = absurd cc
get_of_set P (z ∷ zs) zero y old new zero k e = let same : y ≡ k = cc in subst (λ v. P v 0) same (new z refl)
get_of_set P (z ∷ zs) zero y old new (suc i) k e = old (suc i) k e
get_of_set P (z ∷ zs) (suc j) y old new zero k e = old zero k e
get_of_set P (z ∷ zs) (suc j) y old new (suc i) k e = get_of_set (λ v n. P v (suc n)) zs j y (λ n v at. old (suc n) v at) (λ x at. new x at) i k e

-- a die that was written over one of the same names
pub AreNotedDies-set : (places : BTreeMap (Vec ℕ Global) ℕ) (dies : List DieFacts) (j : ℕ) (k l : DieFacts) → AreNotedDies places dies → slice_get dies j ≡ Some k → l.design ≡ k.design → l.die ≡ k.die
    → AreNotedDies places (slice_set dies j l)
AreNotedDies-set places dies j k l noted at design die =
    get_of_set (λ m i. IsNotedDie places i m) dies j l noted
    (λ m here. record {
      noted = ap (λ n. place_of places (die_key n l.die)) design ∙ ap (λ n. place_of places (die_key k.design n)) die ∙ (noted j k at).noted;
      tag = ap is_tag design ∙ (noted j k at).tag;
    })

-- what stands where it was written
pub set_here : {X : Type 0} (xs : List X) (i : ℕ) (y k : X) → slice_get (slice_set xs i y) i ≡ Some k → y ≡ k
set_here [] i y k e = absurd cc
set_here (z ∷ zs) zero y k e = cc
set_here (z ∷ zs) (suc i) y k e = set_here zs i y k e

-- the element that was lent
pub lent_at : {X : Type 0} (xs : List X) (i : ℕ) (x : X) → x ≡ get_or xs i x → i < length xs → slice_get xs i ≡ Some x
lent_at xs i x e within = slice_get-get_or xs i x within ∙ ap (λ y. Some y) (sym e)

pub lent_is : {X : Type 0} (xs : List X) (i : ℕ) (x k : X) → x ≡ get_or xs i x → slice_get xs i ≡ Some k → x ≡ k
lent_is xs i x k e at = e ∙ get_or_from_slice_get xs i k x at

position_new : {X : Type 0} (p : X → Bool) (xs : List X) (y : X) → position p xs ≡ None → position p (xs ++ y ∷ []) ≡ cond (p y) (Some (length xs)) None
position_new p xs y e = grind (arith, nat_tests, position_or_len_push p xs y, length_push xs y, prefix_len-le-length (λ x. not (p x)) xs)

module _ (places : BTreeMap (Vec ℕ Global) ℕ) (dies : List DieFacts) (noted : AreNotedDies places dies) (d x : List ℕ) where
  pub noted_die : believed (is_die d x) dies (place_of places (die_key d x)) ≡ position (is_die d x) dies
  noted_die = believed_is_first (is_die d x) dies (place_of places (die_key d x))
      (λ i k at same. let names = is_die_names d x k same in subst (λ e. place_of places e ≡ Some i) (ap (λ e. die_key e k.die) names.0 ∙ ap (die_key d) names.1) (noted i k at).noted)

module _ (old new : BTreeMap (Vec ℕ Global) ℕ) (dies : List DieFacts) (d x : List ℕ) (noted : AreNotedDies old dies) (tag : is_tag d ≡ true)
    (absent : position (is_die d x) dies ≡ None) (noting : (q : List ℕ) → place_of new q ≡ (if bytes_eq (die_key d x) q then Some (length dies) else place_of old q)) where
  other_key : (i : ℕ) (k : DieFacts) → slice_get dies i ≡ Some k → (b : Bool) → bytes_eq (die_key d x) (die_key k.design k.die) ≡ b → b ≡ false
  other_key i k at false e = refl
  other_key i k at true e =
      let parts = key_parts d k.design x k.die tag (noted i k at).tag ((bytes_decides (die_key d x) (die_key k.design k.die)).0 e) in
      let is : is_die d x k ≡ true = is_die_itself d x k (sym parts.0) (sym parts.1) in
      let isnt : is_die d x k ≡ false = none_there (is_die d x) dies i k absent at in absurd cc

  stays : (i : ℕ) (k : DieFacts) → slice_get dies i ≡ Some k → IsNotedDie new i k
  stays i k at =
      let other : bytes_eq (die_key d x) (die_key k.design k.die) ≡ false = other_key i k at (bytes_eq (die_key d x) (die_key k.design k.die)) refl in
      record {
        noted = noting (die_key k.design k.die) ∙ ap (λ b. if b then Some (length dies) else place_of old (die_key k.design k.die)) other ∙ (noted i k at).noted;
        tag = (noted i k at).tag;
      }

  pub AreNotedDies-push : AreNotedDies new (dies ++ bare_die d x ∷ [])
  AreNotedDies-push = get_of_push (λ k i. IsNotedDie new i k) dies (bare_die d x) stays
      (record {
        noted = noting (die_key d x) ∙ ap (λ b. if b then Some (length dies) else place_of old (die_key d x)) ((bytes_decides (die_key d x) (die_key d x)).1 refl);
        tag = tag;
      })

pub bare_is_last : (dies : List DieFacts) (d x : List ℕ) → position (is_die d x) dies ≡ None → position (is_die d x) (dies ++ bare_die d x ∷ []) ≡ Some (length dies)
bare_is_last dies d x absent = position_new (is_die d x) dies (bare_die d x) absent ∙ ap (λ b. cond b (Some (length dies)) None) (is_die_itself d x (bare_die d x) refl refl)

no_logs : (d x : List ℕ) (b : Bool) → logs_in (cond b (Some (bare_die d x)) None) ≡ []
no_logs d x true = refl
no_logs d x false = refl

no_signs : (d x : List ℕ) (b : Bool) → signs_in (cond b (Some (bare_die d x)) None) ≡ []
no_signs d x true = refl
no_signs d x false = refl

logs_cons : (k : DieFacts) (o p : Option DieFacts) (b : Bool) → logs_in o ≡ logs_in p → logs_in (cond b (Some k) o) ≡ logs_in (cond b (Some k) p)
logs_cons k o p true e = refl
logs_cons k o p false e = e

signs_cons : (k : DieFacts) (o p : Option DieFacts) (b : Bool) → signs_in o ≡ signs_in p → signs_in (cond b (Some k) o) ≡ signs_in (cond b (Some k) p)
signs_cons k o p true e = refl
signs_cons k o p false e = e

-- a die without logs adds nothing
pub bare_logs : (dies : List DieFacts) (d x e y : List ℕ) → kept_logs (dies ++ bare_die d x ∷ []) e y ≡ kept_logs dies e y
bare_logs [] d x e y = no_logs d x (is_die e y (bare_die d x))
bare_logs (k ∷ ks) d x e y = logs_cons k (find (is_die e y) (ks ++ bare_die d x ∷ [])) (find (is_die e y) ks) (is_die e y k) (bare_logs ks d x e y)

pub bare_signs : (dies : List DieFacts) (d x e y : List ℕ) → kept_signs (dies ++ bare_die d x ∷ []) e y ≡ kept_signs dies e y
bare_signs [] d x e y = no_signs d x (is_die e y (bare_die d x))
bare_signs (k ∷ ks) d x e y = signs_cons k (find (is_die e y) (ks ++ bare_die d x ∷ [])) (find (is_die e y) ks) (is_die e y k) (bare_signs ks d x e y)
