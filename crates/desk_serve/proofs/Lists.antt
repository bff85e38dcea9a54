-- Two lists side by side, as those before and after their items were changed.
use Rattle.std.proofs.Common.{◌≡◌, ◌<◌, ℕ, suc, Bool, true, false, List, [], ◌∷◌, ◌++◌, length, map, refl, ap, ◌∙◌, inl, inr, arith, take, take_all}
use Rattle.std.proofs.lemmas.List.{take-append-le}
use Rattle.std.specs.Prelude.{◌||◌, ◌⊎◌, All, slice_index_or}
use Rattle.std.proofs.lemmas.List.Elements.{All-head, All-tail, All-cons, All-nil, All-append}
use Rattle.std.specs.List.{list_any}
use Rattle.shared_desk.specs.Seats.{DeskFacts}
use Rattle.desk_serve.specs.Work.{Work, HasWorked, AllWorked}

-- ---- one list

pub all_push : {X : Type 0} (P : X → Type 0) (xs : List X) (x : X) → All P xs → P x → All P (xs ++ x ∷ [])
all_push P xs x all last = All-append P xs (x ∷ []) all (All-cons P x [] last (All-nil P))

pub all_front : {X : Type 0} (P : X → Type 0) (xs ys : List X) → All P (xs ++ ys) → All P xs
all_front P [] ys all = All-nil P
all_front P (x ∷ xs) ys all = All-cons P x xs (All-head P x (xs ++ ys) all) (all_front P xs ys (All-tail P x (xs ++ ys) all))

pub all_last : {X : Type 0} (P : X → Type 0) (xs : List X) (x : X) → All P (xs ++ x ∷ []) → P x
all_last P [] x all = All-head P x [] all
all_last P (y ∷ xs) x all = all_last P xs x (All-tail P y (xs ++ x ∷ []) all)

pub all_of_map : {X Y : Type 0} (P : X → Type 0) (f : Y → X) (ys : List Y) → All P (map f ys) → All (λ y. P (f y)) ys
all_of_map P f [] all = All-nil (λ y. P (f y))
all_of_map P f (y ∷ ys) all = All-cons (λ y. P (f y)) y ys (All-head P (f y) (map f ys) all) (all_of_map P f ys (All-tail P (f y) (map f ys) all))

pub map_twice : {X Y Z : Type 0} (f : Y → Z) (h : X → Y) (xs : List X) → map f (map h xs) ≡ map (λ x. f (h x)) xs
map_twice f h [] = refl
map_twice f h (x ∷ xs) = ap (λ l. f (h x) ∷ l) (map_twice f h xs)

-- all of a list that stands before another
pub front_of_all : {X : Type 0} (n : ℕ) (xs ys : List X) → n ≡ length xs → take n (xs ++ ys) ≡ xs
front_of_all n xs ys e = take-append-le n xs ys (omega (arith, e)) ∙ take_all n xs (omega (arith, e))

pub or_some : (a b : Bool) → (a || b) ≡ true → (a ≡ true) ⊎ (b ≡ true)
or_some true b e = inl refl
or_some false b e = inr e

pub or_right : (a b : Bool) → b ≡ true → (a || b) ≡ true
or_right true b e = refl
or_right false b e = e

pub any_push : {X : Type 0} (p : X → Bool) (xs : List X) (x : X) → list_any p (xs ++ x ∷ []) ≡ true → (list_any p xs ≡ true) ⊎ (p x ≡ true)
any_push p [] x e = elim (or_some (p x) false e) [ inl h ↦ inr h | inr h ↦ inl h ]
any_push p (y ∷ xs) x e =
    elim (or_some (p y) (list_any p (xs ++ x ∷ [])) e) [
      | inl h ↦ inl (rw h refl)
      | inr h ↦ elim (any_push p xs x h) [ inl k ↦ inl (or_right (p y) (list_any p xs) k) | inr k ↦ inr k ]
    ]

-- ---- two lists

-- each item before beside it after
abbrev pub beside : {W X : Type 0} → (W → W → X) → List W → List W → List X
beside of [] ys = []
beside of (x ∷ xs) [] = []
beside of (x ∷ xs) (y ∷ ys) = of x y ∷ beside of xs ys

pub map_before : {W X Y : Type 0} (of : W → W → X) (f : X → Y) (g : W → Y) → ((x y : W) → f (of x y) ≡ g x) → (xs ys : List W) → length ys ≡ length xs → map f (beside of xs ys) ≡ map g xs
map_before of f g is [] ys e = refl
map_before of f g is (x ∷ xs) [] e = absurd (omega (arith, e))
map_before of f g is (x ∷ xs) (y ∷ ys) e = rw (is x y) (ap (λ l. g x ∷ l) (map_before of f g is xs ys (omega (arith, e))))

pub map_after : {W X Y : Type 0} (of : W → W → X) (f : X → Y) (g : W → Y) → ((x y : W) → f (of x y) ≡ g y) → (xs ys : List W) → length ys ≡ length xs → map f (beside of xs ys) ≡ map g ys
map_after of f g is [] [] e = refl
map_after of f g is [] (y ∷ ys) e = absurd (omega (arith, e))
map_after of f g is (x ∷ xs) [] e = absurd (omega (arith, e))
map_after of f g is (x ∷ xs) (y ∷ ys) e = rw (is x y) (ap (λ l. g y ∷ l) (map_after of f g is xs ys (omega (arith, e))))

pub any_after : {W X : Type 0} (of : W → W → X) (f : X → Bool) (g : W → Bool) → ((x y : W) → f (of x y) ≡ g y) → (xs ys : List W) → length ys ≡ length xs → list_any f (beside of xs ys) ≡ list_any g ys
any_after of f g is [] [] e = refl
any_after of f g is [] (y ∷ ys) e = absurd (omega (arith, e))
any_after of f g is (x ∷ xs) [] e = absurd (omega (arith, e))
any_after of f g is (x ∷ xs) (y ∷ ys) e = rw (is x y) (ap (λ b. g y || b) (any_after of f g is xs ys (omega (arith, e))))

-- what holds at each place holds of all
pub all_worked : {W : Type 0} (of : W → W → Work) (desk : DeskFacts) (sessions : ℕ) (xs ys : List W) → length ys ≡ length xs
    → ((i : ℕ) (d : W) → i < length xs → HasWorked desk sessions (of (slice_index_or xs i d) (slice_index_or ys i d))) → AllWorked desk sessions (beside of xs ys)
all_worked of desk sessions [] ys e each = tt
all_worked of desk sessions (x ∷ xs) [] e each = absurd (omega (arith, e))
all_worked of desk sessions (x ∷ xs) (y ∷ ys) e each = (each 0 x (omega arith), all_worked of desk sessions xs ys (omega (arith, e)) (λ i d h. each (suc i) d (omega (arith, h))))
