-- The groups of points that cut lines name.
use Rattle.std.proofs.Common.{◌≡◌, ℕ, zero, suc, ◌+◌, ◌<◌, ◌≤◌, Bool, true, false, not, ◌||◌, eqb, cond, List, [], ◌∷◌, ◌++◌, length, map, get_or, set, refl, sym, ap, ◌∙◌, inl, inr, arith, append-nil}
use Rattle.std.specs.Prelude.{filter, All}
use Rattle.std.specs.List.{list_any, range_with_len}
use Rattle.std.proofs.lemmas.Bool.{cases_eq, eq-eqb, ne_eqb}
use Rattle.std.proofs.lemmas.Grind.{get_or-set_at}
use Rattle.std.proofs.lemmas.List.{get_or-set_other, map_push}
use Rattle.std.proofs.lemmas.List.Elements.{filter-append, All-nil, All-cons, All-head, All-tail, All-filter, All-map, All-weaker}
use Rattle.std.proofs.lemmas.List.Folds.{list_any-append}
use Rattle.scan_model.specs.declared.parts.Point.{Point}
use Rattle.scan_model.specs.declared.parts.Point.TheVariants.{Output, Cell}
use Rattle.scan_model.specs.declared.logs.CutGroup.{CutGroup}
use Rattle.scan_model.specs.declared.logs.CutGroup.TheVariants.{Outputs, Chain}
use Rattle.scan_model.specs.LogText.{same_group, each_once, is_in_group, group_points}
use Rattle.fail_logs.specs.Groups.{row_of, row_at, row_points, IsGroupIn}
use Rattle.fail_logs.proofs.BitOrder.{range_split}
use Rattle.fail_logs.proofs.Later.{or_false, or_true}

-- ---- each group once

-- a group is among those that came
abbrev pub came : List CutGroup → CutGroup → Bool
came gs g = list_any (λ h. same_group h g) gs

-- the groups, each once, with one more
pub each_once_push : (gs : List CutGroup) (g : CutGroup) → each_once (gs ++ g ∷ []) ≡ each_once gs ++ cond (came gs g) [] (g ∷ [])
each_once_push [] g = refl
each_once_push (x ∷ xs) g =
    ap (λ hs. x ∷ filter (λ h. not (same_group x h)) hs) (each_once_push xs g)
    ∙ ap (λ hs. x ∷ hs) (filter-append (λ h. not (same_group x h)) (each_once xs) (cond (came xs g) [] (g ∷ [])) ∙ ap (λ hs. filter (λ h. not (same_group x h)) (each_once xs) ++ hs) (one (came xs g) (same_group x g) refl))
  where
    one : (later first : Bool) → same_group x g ≡ first → filter (λ h. not (same_group x h)) (cond later [] (g ∷ [])) ≡ cond (first || later) [] (g ∷ [])
    one true true e = refl
    one true false e = refl
    one false true e = rw e refl
    one false false e = rw e refl

-- groups are the same where their rows are
pub same_row : (g h : CutGroup) → same_group g h ≡ eqb (row_of g) (row_of h)
same_row Outputs Outputs = refl
same_row Outputs (Chain h) = sym (ne_eqb 0 (h + 1) (λ e. omega arith))
same_row (Chain g) Outputs = sym (ne_eqb (g + 1) 0 (λ e. omega arith))
same_row (Chain g) (Chain h) = elim (cases_eq g h) [
  | inl same ↦ eq-eqb g h same ∙ sym (eq-eqb (g + 1) (h + 1) (omega arith))
  | inr other ↦ ne_eqb g h other ∙ sym (ne_eqb (g + 1) (h + 1) (λ e. other (omega arith)))
]

-- ---- the points of a row

point_row : (g : CutGroup) (s : Point) → is_in_group g s ≡ eqb (row_at s) (row_of g)
point_row Outputs (Output k) = refl
point_row Outputs (Cell h i) = sym (ne_eqb (h + 1) 0 (λ e. omega arith))
point_row (Chain g) (Output k) = sym (ne_eqb 0 (g + 1) (λ e. omega arith))
point_row (Chain g) (Cell h i) = elim (cases_eq g h) [
  | inl same ↦ eq-eqb g h same ∙ sym (eq-eqb (h + 1) (g + 1) (omega arith))
  | inr other ↦ ne_eqb g h other ∙ sym (ne_eqb (h + 1) (g + 1) (λ e. other (omega arith)))
]

filter_same : {X : Type 0} (p q : X → Bool) → ((x : X) → p x ≡ q x) → (xs : List X) → filter p xs ≡ filter q xs
filter_same p q same [] = refl
filter_same p q same (x ∷ xs) = rw (same x, filter_same p q same xs) refl

pub row_is_group : (points : List Point) (g : CutGroup) → row_points points (row_of g) (length points) ≡ group_points points g
row_is_group points g = sym (filter_same (λ k. is_in_group g (get_or points k (Output 0))) (λ k. eqb (row_at (get_or points k (Output 0))) (row_of g)) (λ k. point_row g (get_or points k (Output 0))) (range_with_len 0 (length points)))

-- one more point
pub row_points_more : (points : List Point) (r n : ℕ) → row_points points r (n + 1) ≡ row_points points r n ++ cond (eqb (row_at (get_or points n (Output 0))) r) (n ∷ []) []
row_points_more points r n =
    ap (filter p) (range_split 0 n 1 (n + 1) refl) ∙ filter-append p (range_with_len 0 n) (range_with_len (0 + n) 1) ∙ ap (λ ks. row_points points r n ++ ks) (last (0 + n) (omega arith))
  where
    p : ℕ → Bool
    p k = eqb (row_at (get_or points k (Output 0))) r

    last : (k : ℕ) → k ≡ n → filter p (range_with_len k 1) ≡ cond (eqb (row_at (get_or points n (Output 0))) r) (n ∷ []) []
    last k e = rw e (go (p n) refl)
      where
        go : (b : Bool) → p n ≡ b → filter p (n ∷ []) ≡ cond (eqb (row_at (get_or points n (Output 0))) r) (n ∷ []) []
        go true is = rw is refl
        go false is = rw is refl

pub blank_push : (xs : List (List ℕ)) → ((r : ℕ) → get_or xs r [] ≡ []) → (r : ℕ) → get_or (xs ++ [] ∷ []) r [] ≡ []
blank_push [] each zero = refl
blank_push [] each (suc r) = refl
blank_push (x ∷ xs) each zero = each 0
blank_push (x ∷ xs) each (suc r) = blank_push xs (λ q. each (suc q)) r

-- ---- the rows with one more point

module _ (views : List (List ℕ)) (points : List Point) (count k : ℕ) (room : length views ≡ count) (so_far : (r : ℕ) → r < count → get_or views r [] ≡ row_points points r k) where
  pub put_point : (row : ℕ) → row ≡ row_at (get_or points k (Output 0)) → row < count → (r : ℕ) → r < count → get_or (set views row (get_or views row [] ++ k ∷ [])) r [] ≡ row_points points r (k + 1)
  put_point row is inside r lt = elim (cases_eq r row) [
    | inl same ↦
        get_or-set_at views row r (get_or views row [] ++ k ∷ []) [] same (omega (arith, room, inside))
        ∙ ap (λ (xs : List ℕ). xs ++ k ∷ []) (so_far row inside)
        ∙ rw (← same) (ap (λ (b : Bool). row_points points r k ++ cond b (k ∷ []) []) (sym (eq-eqb (row_at (get_or points k (Output 0))) r (sym is ∙ sym same))) ∙ sym (row_points_more points r k))
    | inr other ↦
        get_or-set_other views row r (get_or views row [] ++ k ∷ []) [] other ∙ so_far r lt
        ∙ sym (row_points_more points r k ∙ ap (λ (b : Bool). row_points points r k ++ cond b (k ∷ []) []) (ne_eqb (row_at (get_or points k (Output 0))) r (λ e. other (sym e ∙ sym is))) ∙ append-nil (row_points points r k))
  ]

  pub pass_point : count ≤ row_at (get_or points k (Output 0)) → (r : ℕ) → r < count → get_or views r [] ≡ row_points points r (k + 1)
  pass_point past r lt =
      so_far r lt ∙ sym (row_points_more points r k ∙ ap (λ (b : Bool). row_points points r k ++ cond b (k ∷ []) []) (ne_eqb (row_at (get_or points k (Output 0))) r (λ e. omega (arith, past, lt, e))) ∙ append-nil (row_points points r k))

-- ---- the rows that came, with one more group

module _ (count : ℕ) (seen : List Bool) (groups : List CutGroup) (g : CutGroup) (room : length seen ≡ count) (so_far : (r : ℕ) → r < count → get_or seen r false ≡ list_any (λ h. eqb (row_of h) r) groups) where
  pub mark_row : row_of g < count → (r : ℕ) → r < count → get_or (set seen (row_of g) true) r false ≡ list_any (λ h. eqb (row_of h) r) (groups ++ g ∷ [])
  mark_row inside r lt = elim (cases_eq r (row_of g)) [
    | inl same ↦
        get_or-set_at seen (row_of g) r true false same (omega (arith, room, inside))
        ∙ sym (list_any-append (λ h. eqb (row_of h) r) groups (g ∷ []) ∙ ap (λ (b : Bool). list_any (λ h. eqb (row_of h) r) groups || (b || false)) (eq-eqb (row_of g) r (sym same)) ∙ or_true (list_any (λ h. eqb (row_of h) r) groups))
    | inr other ↦
        get_or-set_other seen (row_of g) r true false other ∙ so_far r lt
        ∙ sym (list_any-append (λ h. eqb (row_of h) r) groups (g ∷ []) ∙ ap (λ (b : Bool). list_any (λ h. eqb (row_of h) r) groups || (b || false)) (ne_eqb (row_of g) r (λ e. other (sym e))) ∙ or_false (list_any (λ h. eqb (row_of h) r) groups))
  ]

  came_is : row_of g < count → came groups g ≡ get_or seen (row_of g) false
  came_is inside = same_tests groups ∙ sym (so_far (row_of g) inside)
    where
      same_tests : (gs : List CutGroup) → came gs g ≡ list_any (λ h. eqb (row_of h) (row_of g)) gs
      same_tests [] = refl
      same_tests (h ∷ hs) = rw (same_row h g, same_tests hs) refl

  pub keep_row : row_of g < count → get_or seen (row_of g) false ≡ true → (r : ℕ) → r < count → get_or seen r false ≡ list_any (λ h. eqb (row_of h) r) (groups ++ g ∷ [])
  keep_row inside there r lt = elim (cases_eq r (row_of g)) [
    | inl same ↦ rw same (there ∙ sym (list_any-append (λ h. eqb (row_of h) (row_of g)) groups (g ∷ []) ∙ ap (λ (b : Bool). b || (eqb (row_of g) (row_of g) || false)) (sym (so_far (row_of g) inside) ∙ there)))
    | inr other ↦
        so_far r lt
        ∙ sym (list_any-append (λ h. eqb (row_of h) r) groups (g ∷ []) ∙ ap (λ (b : Bool). list_any (λ h. eqb (row_of h) r) groups || (b || false)) (ne_eqb (row_of g) r (λ e. other (sym e))) ∙ or_false (list_any (λ h. eqb (row_of h) r) groups))
  ]

  pub new_group : row_of g < count → get_or seen (row_of g) false ≡ false → map row_of (each_once (groups ++ g ∷ [])) ≡ map row_of (each_once groups) ++ row_of g ∷ []
  new_group inside none = ap (map row_of) (each_once_push groups g ∙ ap (λ (b : Bool). each_once groups ++ cond b [] (g ∷ [])) (came_is inside ∙ none)) ∙ map_push row_of (each_once groups) g

  pub old_group : row_of g < count → get_or seen (row_of g) false ≡ true → map row_of (each_once (groups ++ g ∷ [])) ≡ map row_of (each_once groups)
  old_group inside there = ap (map row_of) (each_once_push groups g ∙ ap (λ (b : Bool). each_once groups ++ cond b [] (g ∷ [])) (came_is inside ∙ there) ∙ append-nil (each_once groups))

pub row_below : (chains : ℕ) (g : CutGroup) → IsGroupIn chains g → row_of g < chains + 1
row_below chains Outputs inside = omega arith
row_below chains (Chain h) inside = omega (arith, inside)

All-each_once : (P : CutGroup → Type 0) (gs : List CutGroup) → All P gs → All P (each_once gs)
All-each_once P [] all = All-nil P
All-each_once P (g ∷ gs) all = All-cons P g (filter (λ h. not (same_group g h)) (each_once gs)) (All-head P g gs all) (All-filter (λ h. not (same_group g h)) P (each_once gs) (All-each_once P gs (All-tail P g gs all)))

module _ (chains : ℕ) (groups : List CutGroup) (inside : All (IsGroupIn chains) groups) where
  pub rows_inside : All (λ r. r < chains + 1) (map row_of (each_once groups))
  rows_inside = All-map (λ r. r < chains + 1) row_of (each_once groups) (All-weaker (IsGroupIn chains) (λ g. row_of g < chains + 1) (row_below chains) (each_once groups) (All-each_once (IsGroupIn chains) groups inside))

  pub copies_are : (views : List (List ℕ)) (points : List Point) → ((r : ℕ) → r < chains + 1 → get_or views r [] ≡ row_points points r (length points)) → map (λ r. get_or views r []) (map row_of (each_once groups)) ≡ map (group_points points) (each_once groups)
  copies_are views points rows = each (each_once groups) (All-each_once (IsGroupIn chains) groups inside)
    where
      each : (gs : List CutGroup) → All (IsGroupIn chains) gs → map (λ r. get_or views r []) (map row_of gs) ≡ map (group_points points) gs
      each [] all = refl
      each (g ∷ gs) all = rw (rows (row_of g) (row_below chains g (All-head (IsGroupIn chains) g gs all)), row_is_group points g, each gs (All-tail (IsGroupIn chains) g gs all)) refl
