-- Pieces of work, and the items that they have.
use Rattle.std.proofs.Common.{◌≡◌, ◌⊎◌, ◌↔◌, ℕ, zero, suc, List, [], ◌∷◌, ◌++◌, get_or, take, drop, refl, sym, subst, ◌∙◌, inl, inr, arith}
use Rattle.std.specs.Prelude.{All, Contains}
use Rattle.std.specs.List.{Any, insert}
use Rattle.std.proofs.lemmas.List.{get_or_append_left, length-append, get_or_default, take-append-drop}
use Rattle.std.proofs.lemmas.List.Elements.{Contains-get_or, Contains-append_cases, Contains-append_left, Contains-append_right}
use Rattle.rayon.proofs.ListFacts.{Any-append_right}
use Rattle.scan_model.specs.ScanTest.{ScanTest}
use Rattle.fault_effects.specs.declared.suspect.Suspect.{Suspect}
use Rattle.fault_effects.specs.declared.work_kind.WorkKind.{WorkKind}
use Rattle.fault_effects.specs.Pieces.{IsItem, IsServed, item_of}
use Rattle.match_counts.specs.declared.piece.Piece.{Piece}
use Rattle.match_counts.specs.WorkPieces.{HasItem, HaveMore, AreItems, IsServedIn}

module _ {X : Type 0} (P : X → Type 0) where
  -- the first, or one behind it
  pub any_first : (x : X) (xs : List X) → Any P (x ∷ xs) → P x ⊎ Any P xs
  any_first x xs (zero, y, lt, is, holds) = inl (subst P (sym is) holds)
  any_first x xs (suc k, y, lt, is, holds) = inr (k, y, omega (arith, lt), is, holds)

  any_here : (x : X) (xs : List X) → P x → Any P (x ∷ xs)
  any_here x xs holds = (0, x, omega arith, refl, holds)

  any_left : (xs ys : List X) → Any P xs → Any P (xs ++ ys)
  any_left xs ys (k, x, lt, is, holds) = (k, x, omega (arith, lt, length-append xs ys), get_or_append_left xs ys x k lt ∙ is, holds)

  any_cases : (xs ys : List X) → Any P (xs ++ ys) → Any P xs ⊎ Any P ys
  any_cases [] ys any = inr any
  any_cases (x ∷ xs) ys any = elim (any_first x (xs ++ ys) any) [
    | inl first ↦ inl (any_here x xs first)
    | inr behind ↦ elim (any_cases xs ys behind) [
      | inl front ↦ inl (Any-append_right P (x ∷ []) xs front)
      | inr back ↦ inr back
    ]
  ]

  inserted_one : (xs : List X) (i : ℕ) (x : X) → Any P (insert xs i x) → Any P xs ⊎ P x
  inserted_one xs i x any =
      let Of : List X → Type 0 = Any P in
      elim (any_cases (take i xs) (x ∷ drop i xs) any) [
        | inl front ↦ inl (subst Of (take-append-drop i xs) (any_left (take i xs) (drop i xs) front))
        | inr behind ↦ elim (any_first x (drop i xs) behind) [
          | inl here ↦ inr here
          | inr back ↦ inl (subst Of (take-append-drop i xs) (Any-append_right P (take i xs) (drop i xs) back))
        ]
      ]

  one_inserted : (xs : List X) (i : ℕ) (x : X) → Any P xs ⊎ P x → Any P (insert xs i x)
  one_inserted xs i x (inr holds) = Any-append_right P (take i xs) (x ∷ drop i xs) (any_here x (drop i xs) holds)
  one_inserted xs i x (inl any) =
      let Of : List X → Type 0 = Any P in
      elim (any_cases (take i xs) (drop i xs) (subst Of (sym (take-append-drop i xs)) any)) [
        | inl front ↦ any_left (take i xs) (x ∷ drop i xs) front
        | inr back ↦ Any-append_right P (take i xs) (x ∷ drop i xs) (Any-append_right P (x ∷ []) (drop i xs) back)
      ]

-- ---- a list of work that is cut

-- one piece of it more
cut_more : (p : Piece) (later : List ℕ) (pieces : List Piece) (at : ℕ) (k : WorkKind) (n : ℕ)
    → (HasItem (insert pieces at p) k n ⊎ ((k ≡ p.kind) × Contains later n)) ↔ (HasItem pieces k n ⊎ ((k ≡ p.kind) × Contains (p.items.now ++ later) n))
cut_more p later pieces at k n = (fewer, more)
  where
    Has : Piece → Type 0
    Has q = (q.kind ≡ k) × Contains q.items.now n

    fewer : HasItem (insert pieces at p) k n ⊎ ((k ≡ p.kind) × Contains later n) → HasItem pieces k n ⊎ ((k ≡ p.kind) × Contains (p.items.now ++ later) n)
    fewer (inr behind) = inr (behind.0, Contains-append_right p.items.now later n behind.1)
    fewer (inl any) = elim (inserted_one Has pieces at p any) [
      | inl before ↦ inl before
      | inr here ↦ inr (sym here.0, Contains-append_left p.items.now later n here.1)
    ]

    more : HasItem pieces k n ⊎ ((k ≡ p.kind) × Contains (p.items.now ++ later) n) → HasItem (insert pieces at p) k n ⊎ ((k ≡ p.kind) × Contains later n)
    more (inl before) = inl (one_inserted Has pieces at p (inl before))
    more (inr list) = elim (Contains-append_cases p.items.now later n list.1) [
      | inl here ↦ inl (one_inserted Has pieces at p (inr (sym list.0, here)))
      | inr behind ↦ inr (list.0, behind)
    ]

-- and that for all kinds, where the pieces and the list that was left are so cut
pub next_cut : (p : Piece) (left later items : List ℕ) (start pieces new : List Piece) (at : ℕ) → new ≡ insert pieces at p → left ≡ p.items.now ++ later
    → ((k : WorkKind) (n : ℕ) → (HasItem pieces k n ⊎ ((k ≡ p.kind) × Contains left n)) ↔ (HasItem start k n ⊎ ((k ≡ p.kind) × Contains items n)))
    → (k : WorkKind) (n : ℕ) → (HasItem new k n ⊎ ((k ≡ p.kind) × Contains later n)) ↔ (HasItem start k n ⊎ ((k ≡ p.kind) × Contains items n))
next_cut p left later items start pieces new at more split before k n =
    let Left : List Piece → Type 0 = λ ps. HasItem ps k n ⊎ ((k ≡ p.kind) × Contains later n) in
    let Right : List ℕ → Type 0 = λ ns. HasItem pieces k n ⊎ ((k ≡ p.kind) × Contains ns n) in
    let step = cut_more p later pieces at k n in
    (λ has. (before k n).0 (subst Right (sym split) (step.0 (subst Left more has))), λ has. subst Left (sym more) (step.1 (subst Right split ((before k n).1 has))))

-- ---- all lists of a block

pub items_none : (t : ScanTest) (suspects : List Suspect) → AreItems t suspects []
items_none t suspects kind n any = absurd (omega (arith, any.2))

module _ (kind : WorkKind) (items : List ℕ) (old new : List Piece) (more : HaveMore kind items old new) where
  pub items_more : (t : ScanTest) (suspects : List Suspect) → All (IsItem t suspects kind) items → AreItems t suspects old → AreItems t suspects new
  items_more t suspects all before k n any = elim ((more k n).0 any) [
    | inl was ↦ before k n was
    | inr list ↦
        let there = list.1 in
        let Item : ℕ → Type 0 = IsItem t suspects kind in
        let Of : WorkKind → Type 0 = λ x. IsItem t suspects x n in
        subst Of (sym list.0) (subst Item there.2 (all there.0 n there.1))
  ]

  pub items_kept : (k : WorkKind) (n : ℕ) → HasItem old k n → HasItem new k n
  items_kept k n has = (more k n).1 (inl has)

  pub items_there : (n : ℕ) → Contains items n → HasItem new kind n
  items_there n has = (more kind n).1 (inr (refl, has))

-- ---- a piece of them

pub items_of : (t : ScanTest) (suspects : List Suspect) (pieces : List Piece) → AreItems t suspects pieces → All (λ p. All (IsItem t suspects p.kind) p.items.now) pieces
items_of t suspects pieces all k p lt n d within =
    let at = get_or pieces k p in
    all at.kind (get_or at.items.now n d) (k, at, lt, get_or_default pieces k at p lt, (refl, Contains-get_or at.items.now n d within))

pub served_by : (t : ScanTest) (suspects : List Suspect) (pieces : List Piece) (i : ℕ) → IsServedIn t suspects pieces i → Any (λ p. IsServed t suspects p.kind p.items.now i) pieces
served_by t suspects pieces i served =
    let has = served.1 in
    let p = has.1 in
    let In : WorkKind → Type 0 = λ kind. Contains p.items.now (item_of t suspects kind i) in
    (has.0, p, has.2, has.3, subst In (sym has.4.0) has.4.1)
