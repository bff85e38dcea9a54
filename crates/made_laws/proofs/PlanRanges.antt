-- Lines of a netlist for each number of a range.
use Rattle.std.proofs.Common.{◌≡◌, ℕ, zero, suc, ◌+◌, ◌<◌, ◌≤◌, Bool, true, List, [], ◌∷◌, ◌++◌, length, refl, sym, ap, ap₂, subst, ◌∙◌, inl, inr, arith}
use Rattle.std.specs.Prelude.{flat_map}
use Rattle.std.specs.List.{AllByRecursion, list_any, range_with_len}
use Rattle.std.proofs.lemmas.Bool.{cases_lt, or_left, or_right}
use Rattle.std.proofs.lemmas.List.Concat.{flat_map-append}
use Rattle.std.proofs.lemmas.List.Folds.{list_any-append}
use Rattle.scan_model.specs.NetlistRules.{nets_of}
use Rattle.made_laws.proofs.Plans.{Plan, planned, line_of, AreNumbered}
use Rattle.made_laws.proofs.NetForms.{text_of}

-- ---- numbers

module _ (key : List ℕ → ℕ) where
  pub numbered_append : (m : ℕ) (xs ys : List Plan) (middle end : ℕ) → AreNumbered key m xs middle → AreNumbered key middle ys end → AreNumbered key m (xs ++ ys) end
  numbered_append m [] ys middle end a b = subst (λ (k : ℕ). AreNumbered key k ys end) (sym a) b
  numbered_append m (x ∷ xs) ys middle end a b = (a.0, a.1, numbered_append (m + length (nets_of (planned x))) xs ys middle end a.2 b)

  pub renumbered : (m n : ℕ) (ps : List Plan) (end last : ℕ) → m ≡ n → end ≡ last → AreNumbered key m ps end → AreNumbered key n ps last
  renumbered m n ps end last e f a = subst (λ (k : ℕ). AreNumbered key n ps k) f (subst (λ (k : ℕ). AreNumbered key k ps end) e a)

  -- where the lines for x are numbered from `start x` up to `start (x + 1)`
  pub numbered_range : (f : ℕ → List Plan) (start : ℕ → ℕ) (a n : ℕ) → ((x : ℕ) → a ≤ x → x < a + n → AreNumbered key (start x) (f x) (start (x + 1)))
      → AreNumbered key (start a) (flat_map f (range_with_len a n)) (start (a + n))
  numbered_range f start a zero each = let e : a ≡ a + 0 = omega arith in ap start e
  numbered_range f start a (suc n) each =
      let e : (a + 1) + n ≡ a + suc n = omega arith in
      numbered_append (start a) (f a) (flat_map f (range_with_len (a + 1) n)) (start (a + 1)) (start (a + suc n)) (each a (omega arith) (omega arith))
      (subst (λ (k : ℕ). AreNumbered key (start (a + 1)) (flat_map f (range_with_len (a + 1) n)) (start k)) e (numbered_range f start (a + 1) n (λ x low high. each x (omega arith) (omega arith))))

-- ---- all of them

module _ {X : Type 0} (P : X → Type 0) where
  pub all_append : (xs ys : List X) → AllByRecursion P xs → AllByRecursion P ys → AllByRecursion P (xs ++ ys)
  all_append [] ys a b = b
  all_append (x ∷ xs) ys a b = (a.0, all_append xs ys a.1 b)

  pub all_range : (f : ℕ → List X) (a n : ℕ) → ((x : ℕ) → a ≤ x → x < a + n → AllByRecursion P (f x)) → AllByRecursion P (flat_map f (range_with_len a n))
  all_range f a zero each = tt
  all_range f a (suc n) each = all_append (f a) (flat_map f (range_with_len (a + 1) n)) (each a (omega arith) (omega arith)) (all_range f (a + 1) n (λ x low high. each x (omega arith) (omega arith)))

-- ---- one of them

module _ (test : Plan → Bool) where
  pub any_left : (xs ys : List Plan) → list_any test xs ≡ true → list_any test (xs ++ ys) ≡ true
  any_left xs ys e = list_any-append test xs ys ∙ or_left (list_any test xs) (list_any test ys) e

  pub any_right : (xs ys : List Plan) → list_any test ys ≡ true → list_any test (xs ++ ys) ≡ true
  any_right xs ys e = list_any-append test xs ys ∙ or_right (list_any test xs) (list_any test ys) e

  pub any_range : (f : ℕ → List Plan) (a n x : ℕ) → a ≤ x → x < a + n → list_any test (f x) ≡ true → list_any test (flat_map f (range_with_len a n)) ≡ true
  any_range f a zero x low high here = absurd (omega arith)
  any_range f a (suc n) x low high here = elim (cases_lt a x) [
    | inl lt ↦ any_right (f a) (flat_map f (range_with_len (a + 1) n)) (any_range f (a + 1) n x (omega arith) (omega arith) here)
    | inr ge ↦ let same : x ≡ a = omega arith in any_left (f a) (flat_map f (range_with_len (a + 1) n)) (ap (λ (y : ℕ). list_any test (f y)) (sym same) ∙ here)
  ]

-- ---- how many

-- a size that adds up, where the lines for x bring it from `start x` to `start (x + 1)`
pub size_range : (size : List Plan → ℕ) → size [] ≡ 0 → ((xs ys : List Plan) → size (xs ++ ys) ≡ size xs + size ys) → (f : ℕ → List Plan) (start : ℕ → ℕ) (a n : ℕ)
    → ((x : ℕ) → start x + size (f x) ≡ start (x + 1)) → start a + size (flat_map f (range_with_len a n)) ≡ start (a + n)
size_range size none adds f start a zero each = let e : a ≡ a + 0 = omega arith in omega (arith, none, ap start e)
size_range size none adds f start a (suc n) each =
    let e : (a + 1) + n ≡ a + suc n = omega arith in
    omega (arith, adds (f a) (flat_map f (range_with_len (a + 1) n)), each a, size_range size none adds f start (a + 1) n each, ap start e)

-- ---- their text

pub flat_range : {X : Type 0} (t : X → List ℕ) (f : ℕ → List X) (g : ℕ → List ℕ) → ((x : ℕ) → flat_map t (f x) ≡ g x) → (a n : ℕ) → flat_map t (flat_map f (range_with_len a n)) ≡ flat_map g (range_with_len a n)
flat_range t f g each a zero = refl
flat_range t f g each a (suc n) =
    flat_map-append t (f a) (flat_map f (range_with_len (a + 1) n)) ∙ ap₂ (λ (xs ys : List ℕ). xs ++ ys) (each a) (flat_range t f g each (a + 1) n)

pub text_range : (f : ℕ → List Plan) (g : ℕ → List ℕ) → ((x : ℕ) → text_of (f x) ≡ g x) → (a n : ℕ) → text_of (flat_map f (range_with_len a n)) ≡ flat_map g (range_with_len a n)
text_range f g each a n = flat_range (λ p. line_of p ++ 10 ∷ []) f g each a n
