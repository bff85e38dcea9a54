-- A text to which the piece of one more number is added.
use Rattle.std.proofs.Common.{◌≡◌, ◌∙◌, ap, sym, ℕ, ◌+◌, List, [], ◌∷◌, ◌++◌, map}
use Rattle.std.specs.Prelude.{flat_map}
use Rattle.std.specs.List.{range_with_len}
use Rattle.std.proofs.lemmas.List.{map-id, flat_map_more}
use Rattle.std.proofs.lemmas.List.FromFn.{map-range_with_len_more}

-- one number more
range_more : (a n j : ℕ) → a + n ≡ j → range_with_len a (n + 1) ≡ range_with_len a n ++ j ∷ []
range_more a n j at =
    let e : map (λ (k : ℕ). k) (range_with_len a (n + 1)) ≡ map (λ (k : ℕ). k) (range_with_len a n) ++ j ∷ [] = map-range_with_len_more (λ k. k) a n j at in
    simp map-id at e

-- the piece of number j comes after those of the n numbers from a on
pub one_more : {A : Type 0} (f : ℕ → List A) (a n j : ℕ) (before text more : List A) → a + n ≡ j
    → text ≡ before ++ flat_map f (range_with_len a n) → more ≡ text ++ f j → more ≡ before ++ flat_map f (range_with_len a (n + 1))
one_more f a n j before text more at so_far added =
    added ∙ ap (λ xs. xs ++ f j) so_far ∙ flat_map_more f before (range_with_len a n) j ∙ ap (λ ns. before ++ flat_map f ns) (sym (range_more a n j at))

-- a line that is the piece of number j comes after those of the n numbers
pub line_added : (f : ℕ → List ℕ) (before text more line : List ℕ) (a n j : ℕ) → a + n ≡ j → text ≡ before ++ flat_map f (range_with_len a n)
    → more ≡ text ++ line → line ≡ f j → more ≡ before ++ flat_map f (range_with_len a (n + 1))
line_added f before text more line a n j at so_far added is =
    one_more f a n j before text more at so_far (added ∙ ap (λ (piece : List ℕ). text ++ piece) is)
