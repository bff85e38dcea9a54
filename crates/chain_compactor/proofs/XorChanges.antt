-- An XOR of which operands change.
use Rattle.std.proofs.Common.{◌≡◌, ℕ, zero, suc, ◌<◌, false, List, [], ◌∷◌, ◌++◌, ◌+◌, length, map, drop, get_or, refl, sym, ap, ◌∙◌, inl, inr, arith, add-one, append-nil, append_assoc, drop-cons}
use Rattle.std.specs.List.{list_any}
use Rattle.std.proofs.lemmas.Bool.{cases_Bool, or_parts}
use Rattle.std.proofs.lemmas.List.{map-append}
use Rattle.std.proofs.lemmas.List.Folds.{list_any-append}
use Rattle.scan_model.specs.declared.values.Tri.{Tri}
use Rattle.scan_model.specs.declared.values.Tri.TheVariants.{Zero, One, Unknown}
use Rattle.scan_model.specs.declared.parts.Point.{Point}
use Rattle.scan_model.specs.Values.{is_unknown, are_opposite, tri_xor, xor_of}
use Rattle.scan_model.specs.ScanTest.{ScanTest}
use Rattle.scan_model.proofs.Folds.{xor_of-push}
use Rattle.packed_sim.specs.Changes.{IsChange}
use Rattle.compact_points.specs.Compaction.{cell_shown, cells_shown}
use Rattle.chain_compactor.proofs.Xors.{xor_one}

xor_zero : (x : Tri) → tri_xor x Zero ≡ x
xor_zero Zero = refl
xor_zero One = refl
xor_zero Unknown = refl

xor_assoc : (x y z : Tri) → tri_xor (tri_xor x y) z ≡ tri_xor x (tri_xor y z)
xor_assoc Unknown y z = refl
xor_assoc Zero Unknown z = refl
xor_assoc One Unknown z = refl
xor_assoc Zero Zero Zero = refl
xor_assoc Zero Zero One = refl
xor_assoc Zero Zero Unknown = refl
xor_assoc Zero One Zero = refl
xor_assoc Zero One One = refl
xor_assoc Zero One Unknown = refl
xor_assoc One Zero Zero = refl
xor_assoc One Zero One = refl
xor_assoc One Zero Unknown = refl
xor_assoc One One Zero = refl
xor_assoc One One One = refl
xor_assoc One One Unknown = refl

xor_swap : (x y : Tri) → tri_xor x y ≡ tri_xor y x
xor_swap Zero Zero = refl
xor_swap Zero One = refl
xor_swap Zero Unknown = refl
xor_swap One Zero = refl
xor_swap One One = refl
xor_swap One Unknown = refl
xor_swap Unknown Zero = refl
xor_swap Unknown One = refl
xor_swap Unknown Unknown = refl

xor_append : (ys xs : List Tri) → xor_of (xs ++ ys) ≡ tri_xor (xor_of xs) (xor_of ys)
xor_append [] xs = ap xor_of (append-nil xs) ∙ sym (xor_zero (xor_of xs))
xor_append (y ∷ ys) xs =
    ap xor_of (sym (append_assoc xs (y ∷ []) ys))
    ∙ xor_append ys (xs ++ y ∷ [])
    ∙ ap (λ (x : Tri). tri_xor x (xor_of ys)) (xor_of-push xs y)
    ∙ xor_assoc (xor_of xs) y (xor_of ys)
    ∙ ap (λ (x : Tri). tri_xor (xor_of xs) (tri_xor x (xor_of ys))) (sym (xor_one y))
    ∙ ap (tri_xor (xor_of xs)) (sym (xor_append ys (y ∷ [])))

-- one operand changes
pub xor_changed : (before after : List Tri) (good change shown row : Tri) → IsChange good change shown → is_unknown good ≡ false → row ≡ xor_of (before ++ good ∷ after) → tri_xor row change ≡ xor_of (before ++ shown ∷ after)
xor_changed before after good change shown row is known row_is =
    let b = xor_of before in
    let a = xor_of after in
    let split : (x : Tri) → xor_of (before ++ x ∷ after) ≡ tri_xor b (tri_xor x a) = λ x.
    xor_append (x ∷ after) before ∙ ap (tri_xor b) (xor_append after (x ∷ []) ∙ ap (λ (y : Tri). tri_xor y a) (xor_one x)) in
    ap (λ (x : Tri). tri_xor x change) (row_is ∙ split good)
    ∙ xor_assoc b (tri_xor good a) change
    ∙ ap (tri_xor b) (xor_assoc good a change ∙ ap (tri_xor good) (xor_swap a change) ∙ sym (xor_assoc good change a) ∙ ap (λ (x : Tri). tri_xor x a) (is known))
    ∙ sym (split shown)

-- where no cell of some chains is X, none of one of them is
known_parts : (t : ScanTest) (f : Point → Tri) (u h : ℕ) (hs : List ℕ) → list_any is_unknown (map f (cells_shown t u (h ∷ hs))) ≡ false
    → (list_any is_unknown (map f (cell_shown t u h)) ≡ false) × (list_any is_unknown (map f (cells_shown t u hs)) ≡ false)
known_parts t f u h hs known = or_parts (list_any is_unknown (map f (cell_shown t u h))) (list_any is_unknown (map f (cells_shown t u hs)))
    (sym (list_any-append is_unknown (map f (cell_shown t u h)) (map f (cells_shown t u hs))) ∙ ap (list_any is_unknown) (sym (map-append f (cell_shown t u h) (cells_shown t u hs))) ∙ known)

pub each_known : (t : ScanTest) (f : Point → Tri) (u : ℕ) (hs : List ℕ) → list_any is_unknown (map f (cells_shown t u hs)) ≡ false → (i : ℕ) → i < length hs → list_any is_unknown (map f (cell_shown t u (get_or hs i 0))) ≡ false
each_known t f u [] known i lt = absurd (omega arith)
each_known t f u (h ∷ hs) known zero lt = (known_parts t f u h hs known).0
each_known t f u (h ∷ hs) known (suc i) lt = each_known t f u hs (known_parts t f u h hs known).1 i (omega arith)

-- the cells that some chains show from one of them on
pub shown_rest : (t : ScanTest) (u : ℕ) (hs : List ℕ) (i : ℕ) → i < length hs → cells_shown t u (drop i hs) ≡ cell_shown t u (get_or hs i 0) ++ cells_shown t u (drop (i + 1) hs)
shown_rest t u hs i lt = ap (cells_shown t u) (drop-cons hs i 0 lt ∙ ap (λ (n : ℕ). get_or hs i 0 ∷ drop n hs) (sym (add-one i)))

-- where an operand is X, the XOR is, and nothing is its opposite
pub opposite_where_known : (xs : List Tri) (e s v : Tri) → e ≡ xor_of xs → (list_any is_unknown xs ≡ false → s ≡ v) → are_opposite e s ≡ are_opposite (xor_of xs) v
opposite_where_known xs e s v is same = elim (cases_Bool (list_any is_unknown xs)) [
  | inl unknown ↦
      let x : xor_of xs ≡ Unknown = rw unknown refl in
      ap (λ (y : Tri). are_opposite y s) (is ∙ x) ∙ sym (ap (λ (y : Tri). are_opposite y v) x)
  | inr known ↦ ap (λ (y : Tri). are_opposite y s) is ∙ ap (are_opposite (xor_of xs)) (same known)
]
