-- The first entry of a list that passes a test.
use Rattle.std.proofs.Common.{◌≡◌, ℕ, ◌+◌, Bool, true, false, cond, nat_lt, List, [], ◌∷◌, length, map, Option, Some, None, refl, sym, ap, ◌∙◌, arith}
use Rattle.std.specs.List.{list_any, position_or_len}
use Rattle.std.proofs.lemmas.Grind.{common_steps}
use Rattle.diagnosis.specs.declared.put.Put.{Put}
use Rattle.diagnosis.specs.declared.put.Put.TheVariants.{Created, Same}
use Rattle.die_entries.specs.Entries.{put_numbered, put_where}

-- one passes exactly where the first that does has a place
pub any_is_before : {X : Type 0} (test : X → Bool) (xs : List X) → list_any test xs ≡ nat_lt (position_or_len test xs) (length xs)
any_is_before test [] = refl
any_is_before test (x ∷ xs) = let rest = any_is_before test xs in grind (arith, common_steps, rest)

pub any-map : {X Y : Type 0} (test : Y → Bool) (f : X → Y) (xs : List X) → list_any test (map f xs) ≡ list_any (λ x. test (f x)) xs
any-map test f [] = refl
any-map test f (x ∷ xs) = let rest = any-map test f xs in grind (arith, common_steps, rest)

pub position-map : {X Y : Type 0} (test : Y → Bool) (f : X → Y) (xs : List X) → position_or_len test (map f xs) ≡ position_or_len (λ x. test (f x)) xs
position-map test f [] = refl
position-map test f (x ∷ xs) = let rest = position-map test f xs in grind (arith, common_steps, rest)

put_by : (b : Bool) (place count : ℕ) → put_numbered (cond b (Some place) None) count ≡ cond b (Same (place + 1)) (Created (count + 1))
put_by true place count = refl
put_by false place count = refl

-- the entry at the first place
pub put_is_where : {X : Type 0} (test : X → Bool) (xs : List X) (place : Option ℕ) (put : Put)
    → place ≡ cond (nat_lt (position_or_len test xs) (length xs)) (Some (position_or_len test xs)) None → put ≡ put_numbered place (length xs) → put ≡ put_where test xs
put_is_where test xs place put at is =
    is ∙ ap (λ (o : Option ℕ). put_numbered o (length xs)) at ∙ put_by (nat_lt (position_or_len test xs) (length xs)) (position_or_len test xs) (length xs)
    ∙ ap (λ (b : Bool). cond b (Same (position_or_len test xs + 1)) (Created (length xs + 1))) (sym (any_is_before test xs))

-- the first entry whose text passes the test is that of the first text which passes it
pub where-map : {X Y : Type 0} (test : Y → Bool) (f : X → Y) (xs : List X) → put_where (λ x. test (f x)) xs ≡ put_where test (map f xs)
where-map test f xs = grind (arith, common_steps, any-map test f xs, position-map test f xs)
