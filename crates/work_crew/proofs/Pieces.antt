-- Lists of what came of pieces, one piece longer or shorter.
use Rattle.std.proofs.Common.{◌≡◌, ◌∙◌, ap, sym, subst, ◌<◌, ◌+◌, ℕ, zero, suc, List, [], ◌∷◌, ◌++◌, Option, None, IfSome, length, get_or, set, inl, inr, arith}
use Rattle.std.specs.List.{AllZip, range_with_len}
use Rattle.std.proofs.lemmas.Bool.{cases_eq}
use Rattle.std.proofs.lemmas.List.{get_or-set_same, get_or-set_other, length-set, map-id}
use Rattle.std.proofs.lemmas.List.FromFn.{map-range_with_len_more, length-range_with_len}
use Rattle.std.proofs.lemmas.Slice.Zip.{AllZip-long}
use Rattle.rayon.proofs.ListFacts.{AllZip-append}
use Rattle.work_crew.specs.Crews.{ArePlaced}

-- with the piece of the next number
pub made_more : {T : Type 0} (R : ℕ → T → Type 0) (n : ℕ) (made : List T) (x : T) → AllZip R (range_with_len 0 n) made → R n x → AllZip R (range_with_len 0 (n + 1)) (made ++ x ∷ [])
made_more R n made x all one =
    let numbers : range_with_len 0 (n + 1) ≡ range_with_len 0 n ++ n ∷ [] = sym (map-id (range_with_len 0 (n + 1))) ∙ map-range_with_len_more (λ (k : ℕ). k) 0 n n (omega arith) ∙ ap (λ (ks : List ℕ). ks ++ n ∷ []) (map-id (range_with_len 0 n)) in
    subst (λ (ks : List ℕ). AllZip R ks (made ++ x ∷ [])) (sym numbers) (AllZip-append R (range_with_len 0 n) (n ∷ []) made (x ∷ []) all (one, tt))

-- what holds of each made thing and the number of its piece
pub made_at : {T : Type 0} (R : ℕ → T → Type 0) (a n : ℕ) (made : List T) → AllZip R (range_with_len a n) made → (k : ℕ) (d : T) → k < length made → R (a + k) (get_or made k d)
made_at R a zero [] all k d lt = absurd (omega (arith, lt))
made_at R a zero (x ∷ xs) all k d lt = absurd all
made_at R a (suc n) [] all k d lt = absurd all
made_at R a (suc n) (x ∷ xs) all zero d lt = subst (λ (i : ℕ). R i x) (omega arith) all.0
made_at R a (suc n) (x ∷ xs) all (suc k) d lt = subst (λ (i : ℕ). R i (get_or xs k d)) (omega arith) (made_at R (a + 1) n xs all.1 k d (omega (arith, lt)))

-- as many are made as there are pieces
pub made_count : {T : Type 0} (R : ℕ → T → Type 0) (a n : ℕ) (made : List T) → AllZip R (range_with_len a n) made → length made ≡ n
made_count R a n made all = AllZip-long R (range_with_len a n) made all ∙ length-range_with_len a n

each_from : {X T : Type 0} (R : X → T → Type 0) (item : ℕ → X → X) (a : ℕ) (xs : List X) → ((i : ℕ) (d : X) → i < length xs → item (a + i) d ≡ get_or xs i d)
    → (made : List T) → AllZip (λ k y. (d : X) → R (item k d) y) (range_with_len a (length xs)) made → AllZip R xs made
each_from R item a [] are [] all = tt
each_from R item a [] are (y ∷ ys) all = absurd all
each_from R item a (x ∷ xs) are [] all = absurd all
each_from {X} R item a (x ∷ xs) are (y ∷ ys) all =
    let start : a + 0 ≡ a = omega arith in
    let first : item a x ≡ x = subst (λ (k : ℕ). item k x ≡ x) start (are 0 x (omega arith)) in (
      subst (λ (z : X). R z y) first (all.0 x),
      each_from R item (a + 1) xs (λ i d lt. let next : a + suc i ≡ a + 1 + i = omega arith in subst (λ (k : ℕ). item k d ≡ get_or xs i d) next (are (suc i) d (omega (arith, lt)))) ys all.1,
    )

-- what holds of the item of each number, for the list of the items
pub made_of_each : {X T : Type 0} (R : X → T → Type 0) (xs : List X) (made : List T) → AllZip (λ k y. (d : X) → R (get_or xs k d) y) (range_with_len 0 (length xs)) made → AllZip R xs made
made_of_each {X} R xs made all = each_from R (λ k d. get_or xs k d) 0 xs (λ i d lt. ap (λ (k : ℕ). get_or xs k d) (omega arith)) made all

-- with another thing in one of the slots, or nothing
pub placed_set : {T : Type 0} (R : ℕ → T → Type 0) (n : ℕ) (slots : List (Option T)) (k : ℕ) (y : Option T) → k < n → IfSome y (R k) → ArePlaced R n slots → ArePlaced R n (set slots k y)
placed_set {T} R n slots k y below holds placed =
    let Has : ℕ → Option T → Type 0 = λ i slot. IfSome slot (R i) in
    let inside : k < length slots = omega (arith, below, placed.0) in (
      length-set slots k y ∙ placed.0,
      λ i lt. elim (cases_eq i k) [
        | inl same ↦ subst (λ (j : ℕ). Has j (get_or (set slots k y) j None)) (sym same) (subst (Has k) (sym (get_or-set_same slots k y None inside)) holds)
        | inr other ↦ subst (Has i) (sym (get_or-set_other slots k i y None other)) (placed.1 i lt)
      ],
    )
