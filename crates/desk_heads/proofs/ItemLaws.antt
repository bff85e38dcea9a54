-- Bytes have one item at the front and one list of items, and an item stays where more bytes come.
use Rattle.std.proofs.Common.{◌≡◌, ℕ, ◌+◌, ◌≤◌, Bool, true, false, ◌==◌, if◌then◌else◌, nat_lt, List, [], ◌∷◌, ◌++◌, length, take, drop, Some, None, Ok, Err, refl, sym, ◌∙◌, arith, length-append, length-drop}
use Rattle.std.proofs.lemmas.Bool.{ltb-false, le-ltb}
use Rattle.std.proofs.lemmas.List.{take-append-le, drop-append-le}
use Rattle.desk_heads.specs.declared.head.HeadFault.{HeadFault}
use Rattle.desk_heads.specs.Heads.{HeadFacts}
use Rattle.desk_heads.specs.Items.{Item, refused, request, Front, nothing, part, item, IsFrontOf, Ending, closed, between, within, closes, GoesOn, Items}
use Rattle.desk_heads.proofs.HeadLaws.{one_head, stays}

-- bytes have one front
pub one_front : (bytes : List ℕ) (a b : Front) → IsFrontOf bytes a → IsFrontOf bytes b → a ≡ b
one_front bytes a b (h, is_h, e) (k, is_k, f) = let same = one_head bytes h k is_h is_k in cc

-- a refused head stays where more bytes come, and no bytes are after it
pub refused_stays : (bytes more : List ℕ) (f : HeadFault) (rest : List ℕ) → IsFrontOf bytes (item (refused f) rest) → (rest ≡ []) × IsFrontOf (bytes ++ more) (item (refused f) [])
refused_stays bytes more f rest (None, is, e) = absurd (by (length bytes == 0) e)
  where
    by : (b : Bool) → item (refused f) rest ≡ (if b then nothing else part false) → ⊥
    by true e = cc
    by false e = cc
refused_stays bytes more f rest (Some (Err g), is, e) = (cc, (Some (Err g), stays bytes more (Err g) is, cc))
refused_stays bytes more f rest (Some (Ok (n, a)), is, e) = absurd (by (nat_lt (length bytes) (n + a.body)) e)
  where
    by : (b : Bool) → item (refused f) rest ≡ (if b then part a.awaits else item (request a (take a.body (drop n bytes))) (drop (n + a.body) bytes)) → ⊥
    by true e = cc
    by false e = cc

-- a request stays where more bytes come, which are added after it
pub request_stays : (bytes more : List ℕ) (a : HeadFacts) (body rest : List ℕ) → IsFrontOf bytes (item (request a body) rest) → IsFrontOf (bytes ++ more) (item (request a body) (rest ++ more))
request_stays bytes more a body rest (None, is, e) = absurd (by (length bytes == 0) e)
  where
    by : (b : Bool) → item (request a body) rest ≡ (if b then nothing else part false) → ⊥
    by true e = cc
    by false e = cc
request_stays bytes more a body rest (Some (Err g), is, e) = absurd (cc)
request_stays bytes more a body rest (Some (Ok (n, q)), is, e) = by (nat_lt (length bytes) (n + q.body)) refl e
  where
    by : (b : Bool) → nat_lt (length bytes) (n + q.body) ≡ b
        → item (request a body) rest ≡ (if b then part q.awaits else item (request q (take q.body (drop n bytes))) (drop (n + q.body) bytes))
        → IsFrontOf (bytes ++ more) (item (request a body) (rest ++ more))
    by true short e = absurd (cc)
    by false whole e =
        let enough : n + q.body ≤ length bytes = ltb-false _ _ whole in
        let still : nat_lt (length (bytes ++ more)) (n + q.body) ≡ false = le-ltb _ _ (omega (arith, length-append bytes more)) in
        let behind : drop n (bytes ++ more) ≡ drop n bytes ++ more = drop-append-le n bytes more (omega arith) in
        let its_body : take q.body (drop n bytes ++ more) ≡ take q.body (drop n bytes) = take-append-le q.body (drop n bytes) more (omega (arith, length-drop n bytes)) in
        let after : drop (n + q.body) (bytes ++ more) ≡ drop (n + q.body) bytes ++ more = drop-append-le (n + q.body) bytes more enough in
        let same_asked : a ≡ q = cc in
        let same_body : body ≡ take q.body (drop n bytes) = cc in
        let same_rest : rest ≡ drop (n + q.body) bytes = cc in
        (Some (Ok (n, q)), stays bytes more (Ok (n, q)) is, rw (still, behind, its_body, after, same_asked, same_body, same_rest) refl)

-- bytes have one list of items, and one ending
pub one_list : (before : ℕ) (bytes : List ℕ) (xs ys : List Item) (e f : Ending) → Items before bytes xs e → Items before bytes ys f → (xs ≡ ys) × (e ≡ f)
unfolding Items
one_list before bytes [] ys closed f p q = absurd p
one_list before bytes xs [] e closed p q = absurd q
one_list before bytes [] [] between between p q = (refl, refl)
one_list before bytes [] [] between (within awaits) p q = absurd (let e = one_front bytes nothing (part awaits) p q in cc)
one_list before bytes [] [] (within awaits) between p q = absurd (let e = one_front bytes (part awaits) nothing p q in cc)
one_list before bytes [] [] (within a) (within b) p q = let e = one_front bytes (part a) (part b) p q in (refl, cc)
one_list before bytes [] (y ∷ ys) between f p (rest, front, _) = absurd (let e = one_front bytes nothing (item y rest) p front in cc)
one_list before bytes [] (y ∷ ys) (within a) f p (rest, front, _) = absurd (let e = one_front bytes (part a) (item y rest) p front in cc)
one_list before bytes (x ∷ xs) [] e between (rest, front, _) q = absurd (let e = one_front bytes (item x rest) nothing front q in cc)
one_list before bytes (x ∷ xs) [] e (within b) (rest, front, _) q = absurd (let e = one_front bytes (item x rest) (part b) front q in cc)
one_list before bytes (x ∷ xs) (y ∷ ys) e f (rest, front, goes) (other, front2, goes2) =
    let same : item x rest ≡ item y other = one_front bytes (item x rest) (item y other) front front2 in
    let same_item : x ≡ y = cc in
    let same_rest : rest ≡ other = cc in
    let goes_too : GoesOn (closes before x) ys f (Items (before + 1) rest ys f) = rw (same_item, same_rest) goes2 in
    let later = by (closes before x) goes goes_too (λ p q. one_list (before + 1) rest xs ys e f p q) in
    (rw (same_item, later.0) refl, later.1)
  where
    by : (last : Bool) → GoesOn last xs e (Items (before + 1) rest xs e) → GoesOn last ys f (Items (before + 1) rest ys f)
        → (Items (before + 1) rest xs e → Items (before + 1) rest ys f → (xs ≡ ys) × (e ≡ f)) → (xs ≡ ys) × (e ≡ f)
    by true (none, ends) (none_too, ends_too) others = (none ∙ sym none_too, ends ∙ sym ends_too)
    by false p q others = others p q
